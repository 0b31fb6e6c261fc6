use Rattle.pk_front.specs.Texts.{IsLeft}
use Rattle.pk_front.proofs.TextLemmas.{handed_on}
use Rattle.pk_front.proofs.texts.front.Goals as goal

pub returns-in_err-unit-clause-left : goal.returns-in_err-unit-clause-left
returns-in_err-unit-clause-left c = handed_on (IsLeft c.args.text.now c.args.entry.now) c.from_residual.result c.in_err-unit.field-0.0 c.from_residual.ensures.1 (c.in_err-unit.ensures.left c.args.entry.now)
