use Rattle.std.proofs.Common.{ℕ, ◌∙◌, ap, sym, List}
use Rattle.pk_typed.specs.Views.{value_tree, value_trees}
use Rattle.pk_meaning.specs.Work as works
use Rattle.pk_meaning.specs.Work.{Work}
use Rattle.pk_runner_frame.specs.Frames.{held, work_at, work_in}
use Rattle.pk_meaning.specs.Steps as steps
use Rattle.pk_runner_state.specs.Shown.{shown, outcome, program_in}
use Rattle.pk_typed.specs.Trees.{ValueTree}
use Rattle.pk_typed.specs.declared.values.Value.{Value}
use Rattle.pk_typed.proofs.ViewLemmas.{tree_of_call}
use Rattle.pk_meaning.specs.Objects as objects
use Rattle.pk_runner_expression.proofs.expressions.evaluate_tree.Goals as goal

pub returns-in_ok-work-in-Call : goal.returns-in_ok-work-in-Call
unfolding work_in shown
returns-in_ok-work-in-Call c = λ s.
    c.go_on-in-Call.ensures s
    ∙ (ap (λ (w : Work). outcome (steps.on (shown s c.args.state.now) w (shown s c.args.state.now).values) (shown s c.args.state.now))
    (c.in_ok-work-in-Call.ensures s
    ∙ (ap (λ (vs : List Value). steps.called (program_in c.args.program.now) (shown s c.args.state.now).path c.in-Call.site (value_trees vs) (work_at
    (held s c.then.new.frames.items) c.in_ok-fetch-in-Call.fetch)) c.as_slice.ensures.value
    ∙ ap (steps.called (program_in c.args.program.now) (shown s c.args.state.now).path c.in-Call.site (value_trees c.in-Call.arguments.items)) (c.in_ok-fetch-in-Call.ensures.work s
    ∙ ap (λ (m : ℕ). works.Fetch c.in-Call.int_type (objects.result m) (work_at (held s c.args.state.now.frames.items) c.args.number)) c.callee.ensures)))
    ∙ sym (ap (λ (t : ValueTree). outcome (steps.evaluate (program_in c.args.program.now) c.args.chosen.now (shown s c.args.state.now) t (work_at
    (held s c.args.state.now.frames.items) c.args.number)) (shown s c.args.state.now)) (ap value_tree c.in-Call.is ∙ tree_of_call _ _ _ _ c.in-Call.arguments)))
