use Rattle.std.proofs.Common.{◌∙◌, ap, sym}
use Rattle.std.specs.Prelude.{ℤ}
use Rattle.std.proofs.lemmas.Int.{to_z-of_z}
use mir.Syntax.{w128}
use mir.Val.{to_z, of_z}
use Rattle.pk_ctypes.specs.declared.types.Op.{Op}
use Rattle.pk_ctypes.specs.declared.types.Op.TheVariants as ops
use Rattle.pk_ctypes.specs.Types.{wrapped}
use Rattle.pk_ctypes.specs.Operators.{value_of}
use Rattle.pk_meaning.specs.Steps.{operated}
use Rattle.pk_runner_state.proofs.values.operated.Goals as goal

pub returns-in-Div : goal.returns-in-Div
returns-in-Div c =
    c.both-in-Div.ensures
    ∙ (ap (λ (z : ℤ). value_of ops.Div c.args.int_type z (to_z w128 (of_z w128 c.converted-in-Div.result))) (to_z-of_z w128 c.converted-left.result
    (record { sfits = c.converted-left.type_inv }) ∙ c.converted-left.ensures)
    ∙ (ap (value_of ops.Div c.args.int_type (wrapped c.args.int_type c.args.left.now)) (to_z-of_z w128 c.converted-in-Div.result (record { sfits = c.converted-in-Div.type_inv }) ∙ c.converted-in-Div.ensures)
    ∙ ap (λ (op : Op). operated op c.args.int_type c.args.left.now c.args.right.now) (sym c.in-Div.is)))

pub returns-in-Rem : goal.returns-in-Rem
returns-in-Rem c =
    c.both-in-Rem.ensures
    ∙ (ap (λ (z : ℤ). value_of ops.Rem c.args.int_type z (to_z w128 (of_z w128 c.converted-in-Rem.result))) (to_z-of_z w128 c.converted-left.result
    (record { sfits = c.converted-left.type_inv }) ∙ c.converted-left.ensures)
    ∙ (ap (value_of ops.Rem c.args.int_type (wrapped c.args.int_type c.args.left.now)) (to_z-of_z w128 c.converted-in-Rem.result (record { sfits = c.converted-in-Rem.type_inv }) ∙ c.converted-in-Rem.ensures)
    ∙ ap (λ (op : Op). operated op c.args.int_type c.args.left.now c.args.right.now) (sym c.in-Rem.is)))

pub returns-in-And : goal.returns-in-And
returns-in-And c =
    c.both-in-And.ensures
    ∙ (ap (λ (z : ℤ). value_of ops.And c.args.int_type z (to_z w128 (of_z w128 c.converted-in-And.result))) (to_z-of_z w128 c.converted-left.result
    (record { sfits = c.converted-left.type_inv }) ∙ c.converted-left.ensures)
    ∙ (ap (value_of ops.And c.args.int_type (wrapped c.args.int_type c.args.left.now)) (to_z-of_z w128 c.converted-in-And.result (record { sfits = c.converted-in-And.type_inv }) ∙ c.converted-in-And.ensures)
    ∙ ap (λ (op : Op). operated op c.args.int_type c.args.left.now c.args.right.now) (sym c.in-And.is)))

pub returns-in-Or : goal.returns-in-Or
returns-in-Or c =
    c.both-in-Or.ensures
    ∙ (ap (λ (z : ℤ). value_of ops.Or c.args.int_type z (to_z w128 (of_z w128 c.converted-in-Or.result))) (to_z-of_z w128 c.converted-left.result (record { sfits = c.converted-left.type_inv }) ∙ c.converted-left.ensures)
    ∙ (ap (value_of ops.Or c.args.int_type (wrapped c.args.int_type c.args.left.now)) (to_z-of_z w128 c.converted-in-Or.result (record { sfits = c.converted-in-Or.type_inv }) ∙ c.converted-in-Or.ensures)
    ∙ ap (λ (op : Op). operated op c.args.int_type c.args.left.now c.args.right.now) (sym c.in-Or.is)))

pub returns-in-Xor : goal.returns-in-Xor
returns-in-Xor c =
    c.both-in-Xor.ensures
    ∙ (ap (λ (z : ℤ). value_of ops.Xor c.args.int_type z (to_z w128 (of_z w128 c.converted-in-Xor.result))) (to_z-of_z w128 c.converted-left.result
    (record { sfits = c.converted-left.type_inv }) ∙ c.converted-left.ensures)
    ∙ (ap (value_of ops.Xor c.args.int_type (wrapped c.args.int_type c.args.left.now)) (to_z-of_z w128 c.converted-in-Xor.result (record { sfits = c.converted-in-Xor.type_inv }) ∙ c.converted-in-Xor.ensures)
    ∙ ap (λ (op : Op). operated op c.args.int_type c.args.left.now c.args.right.now) (sym c.in-Xor.is)))

pub returns-in-BitNot : goal.returns-in-BitNot
returns-in-BitNot c =
    c.both-in-BitNot.ensures
    ∙ (ap (λ (z : ℤ). value_of ops.BitNot c.args.int_type z (to_z w128 (of_z w128 c.converted-in-BitNot.result))) (to_z-of_z w128 c.converted-left.result
    (record { sfits = c.converted-left.type_inv }) ∙ c.converted-left.ensures)
    ∙ (ap (value_of ops.BitNot c.args.int_type (wrapped c.args.int_type c.args.left.now)) (to_z-of_z w128 c.converted-in-BitNot.result (record { sfits = c.converted-in-BitNot.type_inv }) ∙ c.converted-in-BitNot.ensures)
    ∙ ap (λ (op : Op). operated op c.args.int_type c.args.left.now c.args.right.now) (sym c.in-BitNot.is)))
