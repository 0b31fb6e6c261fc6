use Rattle.std.proofs.lemmas.Result.{on_ok_weaker}
use Rattle.pk_findings.proofs.PieceLemmas.{three_pieces}
use Rattle.pk_findings.proofs.messages.write_element.Goals as goal

pub returns : goal.returns
returns c =
    on_ok_weaker c.write-3.result
    (λ h. three_pieces _ _ _ _ _ _ _ c.in_ok-write.ensures c.in_ok-write-2.ensures h)
    c.write-3.ensures
