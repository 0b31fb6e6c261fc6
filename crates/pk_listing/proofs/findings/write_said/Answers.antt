use Rattle.std.proofs.Common.{to_z-of_z}
use Rattle.std.proofs.lemmas.Result.{on_ok_weaker}
use Rattle.pk_listing.specs.Listing.{said_text}
use Rattle.pk_listing.proofs.PieceLemmas.{four_pieces}
use Rattle.pk_listing.proofs.findings.write_said.Goals as goal

pub returns : goal.returns
unfolding said_text
returns c =
    on_ok_weaker c.write_said_end.result
    (λ h. four_pieces _ _ _ _ _ _ _ _ _ c.in_ok-write.ensures c.in_ok-write_fault_of.ensures c.in_ok-write-2.ensures h)
    (simp (to_z-of_z c.ranges.lo, to_z-of_z c.ranges.hi) at c.write_said_end.ensures)
