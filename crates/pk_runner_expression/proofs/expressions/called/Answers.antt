use Rattle.std.proofs.Common.{ℕ, ◌∙◌, ap, List}
use Rattle.pk_typed.specs.Views.{value_tree, value_trees}
use Rattle.pk_meaning.specs.Work as works
use Rattle.pk_runner_frame.specs.Frames.{held, work_at, work_in}
use Rattle.pk_ctypes.specs.declared.types.IntType.{IntType}
use Rattle.pk_meaning.specs.Programs.{function_of}
use Rattle.pk_runner_state.specs.Shown.{program_in}
use Rattle.pk_runner_expression.proofs.expressions.called.Goals as goal

pub returns : goal.returns
unfolding work_in
returns c = λ s.
    ap (works.Pass (value_trees c.args.arguments.now)) (c.in_ok-bind.ensures.work s
    ∙ (ap (works.Bind c.callee-callee.result 0 c.parameters.result.now) (c.in_ok-enter.ensures.work s)
    ∙ (ap (λ (ts : List IntType). works.Bind c.callee-callee.result 0 ts (works.Enter c.callee-callee.result (work_at (held s c.args.frames.now.items) c.args.number))) c.parameters.ensures
    ∙ ap (λ (m : ℕ). works.Bind m 0 (function_of (program_in c.args.program.now) m).parameters (works.Enter m (work_at (held s c.args.frames.now.items) c.args.number))) c.callee-callee.ensures)))
