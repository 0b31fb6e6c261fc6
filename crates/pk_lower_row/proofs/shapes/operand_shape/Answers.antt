use Rattle.std.proofs.Common.{subst, sym, IfSome}
use Rattle.pk_ctypes.specs.Types.{InType}
use Rattle.pk_lower_row.specs.declared.shapes.Shape.{Shape}
use Rattle.pk_lower_row.specs.Shapes as shapes
use Rattle.pk_lower_row.proofs.ShapeLemmas.{in_type}
use Rattle.pk_lower_row.proofs.shapes.operand_shape.Goals as goal

pub unary_shape-requires : goal.unary_shape-requires
unary_shape-requires c =
    subst (λ (s : Shape). IfSome (shapes.number_in_shape s) (InType c.args.int_type)) (sym c.converted_shape.ensures) (in_type c.args.from c.args.int_type c.args.operand)
