use Rattle.std.proofs.Common.{◌∙◌, arith}
use Rattle.pk_runner_state.proofs.ValueLemmas.{removed_is, none_removed}
use Rattle.pk_runner_state.proofs.values.without_at.Goals as goal

pub returns-then-place-len : goal.returns-then-place-len
returns-then-place-len c = c.remove.ensures.items ∙ removed_is c.args.values.now.items c.args.place (omega arith)

pub returns-else-place-len : goal.returns-else-place-len
returns-else-place-len c = none_removed c.args.values.now.items c.args.place (omega arith)
