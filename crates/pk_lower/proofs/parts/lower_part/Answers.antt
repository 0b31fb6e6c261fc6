use Rattle.std.proofs.Common.{◌∙◌, arith}
use Rattle.std.proofs.lemmas.Result.{on_ok_weaker}
use Rattle.pk_draft.specs.Shown.{drafted}
use Rattle.pk_lower.proofs.PartLemmas.{part_read, part_past}
use Rattle.pk_lower.proofs.parts.lower_part.Goals as goal

pub returns-then-function-len : goal.returns-then-function-len
returns-then-function-len c =
    on_ok_weaker c.lower_function.result
    (λ h. h ∙ part_read c.args.context.now c.args.function c.index.result.now c.args.caller c.args.region (drafted c.args.draft.now) (omega arith) c.index.ensures)
    c.lower_function.ensures

pub returns-else-function-len : goal.returns-else-function-len
returns-else-function-len c = part_past c.args.context.now c.args.function c.args.caller c.args.region (drafted c.args.draft.now) (omega arith)
