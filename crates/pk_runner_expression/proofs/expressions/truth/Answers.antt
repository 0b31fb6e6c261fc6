use Rattle.std.proofs.Common.{◌≡◌, ◌<◌, ◌∙◌, ap, arith, length}
use Rattle.std.specs.Prelude.{pos}
use Rattle.pk_typed.specs.Views.{value_tree}
use Rattle.pk_meaning.specs.Work as works
use Rattle.pk_meaning.specs.Work.{Work}
use Rattle.pk_runner_frame.specs.Frames.{held, work_at, work_in, expression_in, work_of}
use Rattle.pk_meaning.specs.Steps as steps
use Rattle.pk_runner_state.specs.Shown.{shown, outcome}
use Rattle.pk_runner_expression.proofs.expressions.truth.Goals as goal

pub returns : goal.returns
unfolding work_in expression_in shown
returns c = λ s.
    let there : c.in_ok-last.last < length c.then.new.frames.items = omega (arith, c.in_ok-last.ensures.number, c.in_ok-last.ensures.count) in
    let known : work_at (held s c.known.new.frames.items) c.in_ok-number.number ≡ (work_at (held s c.args.state.now.frames.items) c.args.number) = ap work_of (c.in_ok-number.ensures.number s) in
    let first : work_at (held s c.then-2.new.frames.items) c.in_ok-first.first ≡ works.Truth (pos 1) (work_at (held s c.args.state.now.frames.items) c.args.number) =
    c.in_ok-first.ensures.work s ∙ ap (works.Truth (pos 1)) (c.in_ok-last.ensures.below s c.in_ok-number.number c.in_ok-number.ensures.there ∙ known) in
    let last : work_at (held s c.then-2.new.frames.items) c.in_ok-last.last ≡ works.Truth (pos 0) (work_at (held s c.args.state.now.frames.items) c.args.number) =
    c.in_ok-first.ensures.below s c.in_ok-last.last there ∙ (c.in_ok-last.ensures.work s ∙ ap (works.Truth (pos 0)) known) in
    c.go_on.ensures s
    ∙ (ap (λ (w : Work). outcome (steps.on (shown s c.args.state.now) (works.Test (value_tree c.args.value.now) (works.Onward (shown s c.args.state.now).here w) (works.Onward
    (shown s c.args.state.now).here (work_at (held s c.then-2.new.frames.items) c.in_ok-last.last))) (shown s c.args.state.now).values) (shown s c.args.state.now)) first
    ∙ ap (λ (w : Work). outcome (steps.on (shown s c.args.state.now) (works.Test (value_tree c.args.value.now) (works.Onward (shown s c.args.state.now).here (works.Truth (pos 1) (work_at
    (held s c.args.state.now.frames.items) c.args.number))) (works.Onward (shown s c.args.state.now).here w)) (shown s c.args.state.now).values) (shown s c.args.state.now)) last)
