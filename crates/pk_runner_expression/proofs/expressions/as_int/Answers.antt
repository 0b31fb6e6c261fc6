use Rattle.std.proofs.Common.{◌≡◌, ◌∙◌, ap, refl}
use Rattle.pk_typed.specs.Trees as tree
use Rattle.pk_typed.specs.Views.{value_tree}
use Rattle.pk_runner_frame.specs.Frames.{expression_in}
use Rattle.std.specs.Prelude.{Bool, true, false, not, if◌then◌else◌}
use Rattle.pk_ctypes.specs.Types.{represents}
use Rattle.pk_ctypes.specs.declared.types.IntType.TheVariants.{Int}
use Rattle.pk_typed.specs.Trees.{ValueTree}
use Rattle.pk_runner_frame.specs.Frames.{converted_if}
use Rattle.pk_runner_expression.proofs.expressions.as_int.Goals as goal

choice : (b : Bool) (v : ValueTree) → converted_if (not b) v ≡ (if b then v else tree.convert Int v)
choice true v = refl
choice false v = refl

pub returns : goal.returns
unfolding expression_in
returns c =
    choice c.is_within_int-is_int.result (value_tree c.args.value.now)
    ∙ ap (λ (b : Bool). if b then value_tree c.args.value.now else tree.convert Int (value_tree c.args.value.now)) (c.is_within_int-is_int.ensures ∙ ap (represents Int) c.int_type.ensures)
