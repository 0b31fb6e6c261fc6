use Rattle.std.proofs.Common.{refl, arith}
use Rattle.pk_runner_state.proofs.ValueLemmas.{below_is, below_past}
use Rattle.pk_runner_state.proofs.values.below.Goals as goal

pub returns-then-count-values : goal.returns-then-count-values
returns-then-count-values c = (omega arith, λ f. below_is c.args.values.now c.args.count _ f (omega arith) refl)

pub returns-else-count-values : goal.returns-else-count-values
returns-else-count-values c = λ f. below_past c.args.values.now c.args.count f (omega arith)
