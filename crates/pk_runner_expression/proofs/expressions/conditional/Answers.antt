use Rattle.std.proofs.Common.{◌≡◌, ◌<◌, ◌∙◌, ap, arith, length}
use Rattle.pk_typed.specs.Views.{value_tree}
use Rattle.pk_meaning.specs.Work as works
use Rattle.pk_meaning.specs.Work.{Work}
use Rattle.pk_runner_frame.specs.Frames.{held, work_at, work_in, expression_in}
use Rattle.pk_meaning.specs.Steps as steps
use Rattle.pk_runner_state.specs.Shown.{shown, outcome}
use Rattle.pk_runner_expression.proofs.expressions.conditional.Goals as goal

pub returns : goal.returns
unfolding work_in expression_in shown
returns c = λ s.
    let there : c.in_ok-settle.settle < length c.then.new.frames.items = omega (arith, c.in_ok-settle.ensures.number, c.in_ok-settle.ensures.count) in
    let yes_there : c.in_ok-yes.yes < length c.then-2.new.frames.items = omega (arith, c.in_ok-yes.ensures.number, c.in_ok-yes.ensures.count) in
    let yes : work_at (held s c.then-3.new.frames.items) c.in_ok-yes.yes ≡ works.Evaluate (value_tree c.args.if_true.now) (works.Settle c.args.int_type (work_at (held s c.args.state.now.frames.items) c.args.number)) =
    c.in_ok-no.ensures.below s c.in_ok-yes.yes yes_there ∙ (c.in_ok-yes.ensures.work s ∙ ap (works.Evaluate (value_tree c.args.if_true.now)) (c.in_ok-settle.ensures.work s)) in
    let no : work_at (held s c.then-3.new.frames.items) c.in_ok-no.no ≡ works.Evaluate (value_tree c.args.if_false.now) (works.Settle c.args.int_type (work_at (held s c.args.state.now.frames.items) c.args.number)) =
    c.in_ok-no.ensures.work s ∙ ap (works.Evaluate (value_tree c.args.if_false.now)) (c.in_ok-yes.ensures.below s c.in_ok-settle.settle there ∙ c.in_ok-settle.ensures.work s) in
    c.go_on.ensures s
    ∙ (ap (λ (w : Work). outcome (steps.on (shown s c.args.state.now) (works.Test (value_tree c.args.condition.now) (works.Onward (shown s c.args.state.now).here w) (works.Onward
    (shown s c.args.state.now).here (work_at (held s c.then-3.new.frames.items) c.in_ok-no.no))) (shown s c.args.state.now).values) (shown s c.args.state.now)) yes
    ∙ ap (λ (w : Work). outcome (steps.on (shown s c.args.state.now) (works.Test (value_tree c.args.condition.now) (works.Onward (shown s c.args.state.now).here (works.Evaluate
    (value_tree c.args.if_true.now) (works.Settle c.args.int_type (work_at (held s c.args.state.now.frames.items) c.args.number)))) (works.Onward (shown s c.args.state.now).here w))
    (shown s c.args.state.now).values) (shown s c.args.state.now)) no)
