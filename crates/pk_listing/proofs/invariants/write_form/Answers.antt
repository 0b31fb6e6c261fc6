use Rattle.std.proofs.Common.{to_z-of_z}
use Rattle.std.proofs.lemmas.Result.{on_ok_weaker}
use Rattle.pk_findings.proofs.PieceLemmas.{three_pieces}
use Rattle.pk_listing.proofs.invariants.write_form.Goals as goal

pub returns : goal.returns
returns c =
    on_ok_weaker c.write_times.result
    (λ h. three_pieces _ _ _ _ _ _ _ c.in_ok-write.ensures (simp (to_z-of_z c.ranges.modulus) at c.in_ok-write_number.ensures) h)
    (simp (to_z-of_z c.ranges.rest) at c.write_times.ensures)
