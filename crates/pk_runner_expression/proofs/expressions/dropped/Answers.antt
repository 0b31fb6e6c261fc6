use Rattle.std.proofs.Common.{ap}
use Rattle.pk_typed.specs.Views.{value_tree}
use Rattle.pk_meaning.specs.Work as works
use Rattle.pk_runner_frame.specs.Frames.{work_in, expression_in}
use Rattle.pk_runner_expression.proofs.expressions.dropped.Goals as goal

pub returns : goal.returns
unfolding work_in expression_in
returns c = λ s. ap (works.Evaluate (value_tree c.args.value.now)) (c.in_ok-last.ensures.work s)
