use Rattle.std.proofs.Common.{to_z-of_z}
use Rattle.std.proofs.lemmas.Result.{on_ok_weaker}
use Rattle.pk_listing.specs.Listing.{finding_at}
use Rattle.pk_listing.proofs.PieceLemmas.{four_pieces}
use Rattle.pk_listing.proofs.findings.write_finding_at.Goals as goal

pub returns : goal.returns
unfolding finding_at
returns c =
    on_ok_weaker c.write_ways_of.result
    (λ h. four_pieces _ _ _ _ _ _ _ _ _ c.in_ok-write_head_of.ensures
    (simp (to_z-of_z c.ranges.lo, to_z-of_z c.ranges.hi) at c.in_ok-write_said.ensures) c.in_ok-write_excerpt_of.ensures h)
    c.write_ways_of.ensures
