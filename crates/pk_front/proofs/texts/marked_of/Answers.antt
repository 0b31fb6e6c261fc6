use Rattle.pk_front.specs.Texts.{IsLeft}
use Rattle.pk_front.proofs.TextLemmas.{handed_on}
use Rattle.pk_front.proofs.texts.marked_of.Goals as goal

pub returns-in_err-tokens-clause-left : goal.returns-in_err-tokens-clause-left
returns-in_err-tokens-clause-left c = λ entry. handed_on (IsLeft c.args.text.now entry) c.from_residual.result c.in_err-tokens.field-0.0 c.from_residual.ensures.1 (c.in_err-tokens.ensures.left entry)
