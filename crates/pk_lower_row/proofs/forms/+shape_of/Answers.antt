-- Each form by what its parts are.
use Rattle.std.proofs.Common.{ap, sym, ◌∙◌}
use Rattle.pk_ctypes.specs.declared.types.IntType.{IntType}
use Rattle.pk_typed.specs.declared.values.Value.{Value}
use Rattle.pk_typed.specs.Types.{type_of}
use Rattle.pk_typed.specs.Views.{value_tree}
use Rattle.pk_lower_row.specs.declared.shapes.Shape.{Shape}
use Rattle.pk_lower_row.specs.Shapes as shapes
use Rattle.pk_lower_row.proofs.forms.+shape_of.Goals as goal

abbrev shape : Value → Shape
shape v = shapes.shape_of (value_tree v)

abbrev int_type : Value → IntType
int_type v = type_of (value_tree v)

pub returns-in-Constant : goal.returns-in-Constant
unfolding value_tree
returns-in-Constant t c = c.fixed.ensures ∙ sym (ap shape c.in-Constant.is)

pub returns-in-Call : goal.returns-in-Call
unfolding value_tree
returns-in-Call t c = sym (ap shape c.in-Call.is)

pub returns-in-Any : goal.returns-in-Any
unfolding value_tree
returns-in-Any t c = sym (ap shape c.in-Any.is)

pub returns-in-Conditional : goal.returns-in-Conditional
unfolding value_tree
returns-in-Conditional t c = sym (ap shape c.in-Conditional.is)

pub returns-in-And : goal.returns-in-And
unfolding value_tree
returns-in-And t c = sym (ap shape c.in-And.is)

pub returns-in-Or : goal.returns-in-Or
unfolding value_tree
returns-in-Or t c = sym (ap shape c.in-Or.is)

pub returns-in-Read : goal.returns-in-Read
unfolding value_tree
returns-in-Read t c = c.shape_of_place.ensures ∙ sym (ap shape c.in-Read.is)

pub returns-in-Assign : goal.returns-in-Assign
unfolding value_tree
returns-in-Assign t c = c.shape_of_place-in-Assign.ensures ∙ sym (ap shape c.in-Assign.is)

pub returns-in-Update : goal.returns-in-Update
unfolding value_tree
returns-in-Update t c = c.shape_of_place-in-Update.ensures ∙ sym (ap shape c.in-Update.is)

pub returns-in-Then : goal.returns-in-Then
unfolding value_tree
returns-in-Then t c = c.shape_of-in-Then.ensures ∙ (ap shape c.deref-in-Then.ensures ∙ sym (ap shape c.in-Then.is))

pub returns-in-Unary : goal.returns-in-Unary
unfolding value_tree
returns-in-Unary t c = c.operand_shape.ensures ∙ (ap (λ (u : IntType). shapes.unary_shape c.in-Unary.op c.in-Unary.int_type (shapes.converted_shape u c.in-Unary.int_type c.shape_of.result)) (c.int_type.ensures ∙ ap int_type c.deref.ensures) ∙ (ap (λ (s : Shape). shapes.unary_shape c.in-Unary.op c.in-Unary.int_type (shapes.converted_shape (int_type c.in-Unary.operand.value) c.in-Unary.int_type s)) (c.shape_of.ensures ∙ ap shape c.deref-in-Unary.ensures) ∙ sym (ap shape c.in-Unary.is)))

pub returns-in-Convert : goal.returns-in-Convert
unfolding value_tree
returns-in-Convert t c = c.converted_shape.ensures ∙ (ap (λ (u : IntType). shapes.converted_shape u c.in-Convert.int_type c.shape_of-in-Convert.result) (c.int_type-in-Convert.ensures ∙ ap int_type c.deref-in-Convert.ensures) ∙ (ap (shapes.converted_shape (int_type c.in-Convert.operand.value) c.in-Convert.int_type) (c.shape_of-in-Convert.ensures ∙ ap shape c.deref-in-Convert-2.ensures) ∙ sym (ap shape c.in-Convert.is)))

pub returns-in-Binary : goal.returns-in-Binary
unfolding value_tree
returns-in-Binary t c = c.operated_shape.ensures ∙ (ap (λ (u : IntType). shapes.operated_shape c.in-Binary.operator c.in-Binary.int_type u c.int_type-in-Binary-2.result c.shape_of-in-Binary.result c.shape_of-in-Binary-2.result) (c.int_type-in-Binary.ensures ∙ ap int_type c.deref-in-Binary.ensures) ∙ (ap (λ (u : IntType). shapes.operated_shape c.in-Binary.operator c.in-Binary.int_type (int_type c.in-Binary.left.value) u c.shape_of-in-Binary.result c.shape_of-in-Binary-2.result) (c.int_type-in-Binary-2.ensures ∙ ap int_type c.deref-in-Binary-2.ensures) ∙ (ap (λ (s : Shape). shapes.operated_shape c.in-Binary.operator c.in-Binary.int_type (int_type c.in-Binary.left.value) (int_type c.in-Binary.right.value) s c.shape_of-in-Binary-2.result) (c.shape_of-in-Binary.ensures ∙ ap shape c.deref-in-Binary-3.ensures) ∙ (ap (λ (s : Shape). shapes.operated_shape c.in-Binary.operator c.in-Binary.int_type (int_type c.in-Binary.left.value) (int_type c.in-Binary.right.value) (shape c.in-Binary.left.value) s) (c.shape_of-in-Binary-2.ensures ∙ ap shape c.deref-in-Binary-4.ensures) ∙ sym (ap shape c.in-Binary.is)))))

pub returns-in-Step : goal.returns-in-Step
unfolding value_tree
returns-in-Step t c = c.shape_of_step.ensures ∙ sym (ap shape c.in-Step.is)
