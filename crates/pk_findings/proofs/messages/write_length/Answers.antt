use Rattle.std.proofs.lemmas.Result.{on_ok_weaker}
use Rattle.pk_findings.proofs.PieceLemmas.{three_pieces}
use Rattle.pk_findings.proofs.messages.write_length.Goals as goal

pub returns : goal.returns
returns c =
    on_ok_weaker c.write-2.result
    (λ h. three_pieces _ _ _ _ _ _ _ c.in_ok-write.ensures c.in_ok-write_count.ensures h)
    (rw c.plural.ensures at c.write-2.ensures)
