use Rattle.std.proofs.Common.{ap}
use Rattle.pk_meaning.specs.Work as works
use Rattle.pk_runner_frame.specs.Frames.{work_in, expression_in}
use Rattle.pk_runner_expression.proofs.expressions.decided.Goals as goal

pub returns : goal.returns
unfolding work_in
returns c = λ s. ap (works.Evaluate (expression_in c.args.expression)) (c.in_ok-branch.ensures.work s)
