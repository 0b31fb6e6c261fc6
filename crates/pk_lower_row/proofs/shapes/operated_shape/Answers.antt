use Rattle.std.proofs.Common.{ap, subst, sym, ◌∙◌, IfSome}
use Rattle.pk_ctypes.specs.declared.types.IntType.{IntType}
use Rattle.pk_ctypes.specs.Types.{InType}
use Rattle.pk_ctypes.specs.Operators.{HasRight}
use Rattle.pk_lower_row.specs.declared.shapes.Shape.{Shape}
use Rattle.pk_lower_row.specs.Shapes as shapes
use Rattle.pk_lower_row.proofs.ShapeLemmas.{in_type, is_right}
use Rattle.pk_lower_row.proofs.shapes.operated_shape.Goals as goal

pub binary_shape-requires-clause-left : goal.binary_shape-requires-clause-left
binary_shape-requires-clause-left c =
    subst (λ (s : Shape). IfSome (shapes.number_in_shape s) (InType c.args.int_type)) (sym c.converted_shape-a.ensures) (in_type c.args.u c.args.int_type c.args.left)

pub binary_shape-requires-clause-right : goal.binary_shape-requires-clause-right
binary_shape-requires-clause-right c =
    subst (λ (s : Shape). IfSome (shapes.number_in_shape s) (HasRight c.args.op c.args.int_type)) (sym (c.converted_shape-b.ensures ∙ ap (λ (t : IntType). shapes.converted_shape c.args.v t c.args.right) c.right_type.ensures)) (is_right c.args.op c.args.v c.args.int_type c.args.right)

pub returns : goal.returns
returns c =
    c.binary_shape.ensures ∙ (ap (λ (a : Shape). shapes.binary_shape c.args.op c.args.int_type a c.converted_shape-b.result) c.converted_shape-a.ensures ∙ ap (shapes.binary_shape c.args.op c.args.int_type (shapes.converted_shape c.args.u c.args.int_type c.args.left)) (c.converted_shape-b.ensures ∙ ap (λ (t : IntType). shapes.converted_shape c.args.v t c.args.right) c.right_type.ensures))
