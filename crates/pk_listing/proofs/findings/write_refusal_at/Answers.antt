use Rattle.std.proofs.lemmas.Result.{on_ok_weaker}
use Rattle.pk_listing.specs.Listing.{refusal_at}
use Rattle.pk_findings.proofs.PieceLemmas.{three_pieces}
use Rattle.pk_listing.proofs.findings.write_refusal_at.Goals as goal

pub returns : goal.returns
unfolding refusal_at
returns c =
    on_ok_weaker c.write_excerpt_at.result
    (λ h. three_pieces _ _ _ _ _ _ _ c.in_ok-write_head_at.ensures c.in_ok-write_said_line.ensures h)
    c.write_excerpt_at.ensures
