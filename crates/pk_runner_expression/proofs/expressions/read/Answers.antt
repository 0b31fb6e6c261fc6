use Rattle.std.proofs.Common.{◌∙◌, ap, sym, ◌∷◌}
use Rattle.std.specs.Prelude.{ℤ}
use Rattle.pk_runner_frame.specs.Frames.{held, work_at}
use Rattle.pk_meaning.specs.Steps as steps
use Rattle.pk_runner_state.specs.Shown.{shown, outcome, program_in}
use Rattle.std.proofs.lemmas.Int.{to_z-of_z}
use Rattle.std.specs.Int.{w128}
use Rattle.pk_typed.specs.Trees.{PlaceTree}
use Rattle.pk_typed.specs.Views.{place_tree}
use Rattle.pk_meaning.specs.Objects.{Object, number_of}
use Rattle.pk_runner_frame.proofs.FrameLemmas.{if_map}
use Rattle.pk_runner_expression.proofs.expressions.read.Goals as goal

pub returns-in-Scalar : goal.returns-in-Scalar
unfolding place_tree shown
returns-in-Scalar c = λ s.
    if_map c.give.result _ _ (λ r e. e
    ∙ (ap (λ (z : ℤ). outcome (steps.on (shown s c.args.state.now) (work_at (held s c.args.state.now.frames.items) c.args.number) (z ∷ (shown s c.args.state.now).values))
    (shown s c.args.state.now)) (to_z-of_z w128 c.number-value.result (record { sfits = c.number-value.type_inv }) ∙ (c.number-value.ensures
    ∙ ap (λ (x : Object). number_of x (shown s c.args.state.now).objects) c.object_of.ensures))
    ∙ ap (λ (q : PlaceTree). outcome (steps.read_place (program_in c.args.program.now) (shown s c.args.state.now) q (work_at (held s c.args.state.now.frames.items) c.args.number))
    (shown s c.args.state.now)) (sym (ap place_tree c.in-Scalar.is)))) (c.give.ensures s)
