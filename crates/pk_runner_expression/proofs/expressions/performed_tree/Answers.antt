use Rattle.std.proofs.Common.{◌∙◌, ap, sym, List}
use Rattle.pk_typed.specs.Views.{value_tree, value_trees}
use Rattle.pk_runner_frame.specs.Frames.{held, work_at, place_in}
use Rattle.pk_meaning.specs.Steps as steps
use Rattle.pk_runner_state.specs.Shown.{program_in}
use Rattle.pk_typed.specs.Trees.{EffectTree}
use Rattle.pk_typed.specs.declared.values.Value.{Value}
use Rattle.pk_typed.specs.Views.{effect_tree}
use Rattle.pk_typed.proofs.ViewLemmas.{tree_of_run}
use Rattle.pk_runner_frame.proofs.FrameLemmas.{if_map}
use Rattle.pk_runner_expression.proofs.expressions.performed_tree.Goals as goal

pub returns-in-Call : goal.returns-in-Call
returns-in-Call c = λ s.
    if_map c.called.result _ _ (λ w e. e
    ∙ (ap (λ (vs : List Value). steps.called (program_in c.args.program.now) c.args.path c.in-Call.site (value_trees vs) (work_at (held s c.args.frames.now.items) c.args.number)) c.as_slice.ensures.value
    ∙ sym (ap (λ (t : EffectTree). steps.performed (program_in c.args.program.now) c.args.path (place_in s c.args.here) t (work_at (held s c.args.frames.now.items) c.args.number))
    (ap effect_tree c.in-Call.is ∙ tree_of_run _ _ _ c.in-Call.arguments)))) (c.called.ensures s)
