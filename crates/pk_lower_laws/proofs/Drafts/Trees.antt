-- Trees that the lowering makes are typed where their parts are.
use Rattle.std.proofs.Common.{◌≡◌, Bool, true, false, Option, Some, None, refl, arith}
use Rattle.std.specs.Prelude.{ℤ, Result, Ok, Err}
use Rattle.std.specs.Option.{option_map, option_and_then}
use Rattle.pk_ctypes.specs.declared.types.IntType.{IntType}
use Rattle.pk_ctypes.specs.declared.types.Op.{Op}
use Rattle.pk_ctypes.specs.declared.types.Op.TheVariants.{Add, Sub, Mul, Div, Rem, Shl, Shr, And, Or, Xor, Lt, Gt, Le, Ge, Eq, Ne, Neg, BitNot, Not}
use Rattle.pk_ctypes.specs.declared.faults.Fault.{Fault}
use Rattle.pk_ctypes.specs.Types.{InType, Represents, represents, wrapped}
use Rattle.pk_ctypes.specs.Operators.{value_of, result_type}
use Rattle.pk_ctypes.proofs.Operator_values.{value_in}
use Rattle.pk_ctypes.proofs.Wrapped.{wrapped_in}
use Rattle.pk_ctypes.proofs.Common.{test-Represents}
use Rattle.pk_graph.specs.declared.trees.Site.{Site}
use Rattle.pk_graph.specs.Kinds.{IsUnary, IsRight}
use Rattle.pk_lower_laws.proofs.Drafts.Tables.{Table, type_of, IsOfType}
use Rattle.pk_graph.specs.Trees.{TreeOf, constant, variable, converted, unary, binary}
use Rattle.pk_draft.specs.Folding.{number_in, folded, kept_if, conversion, right_type, unary_tree, binary_tree, operated_tree, updated_tree}
use Rattle.pk_welltyped.specs.WellTyped.{operands}

-- ---- operators

unary_operator : (op : Op) → operands op ≡ 1 → IsUnary op
unary_operator Neg h = tt
unary_operator BitNot h = tt
unary_operator Not h = tt
unary_operator Add h = absurd (omega (h, arith))
unary_operator Sub h = absurd (omega (h, arith))
unary_operator Mul h = absurd (omega (h, arith))
unary_operator Div h = absurd (omega (h, arith))
unary_operator Rem h = absurd (omega (h, arith))
unary_operator Shl h = absurd (omega (h, arith))
unary_operator Shr h = absurd (omega (h, arith))
unary_operator And h = absurd (omega (h, arith))
unary_operator Or h = absurd (omega (h, arith))
unary_operator Xor h = absurd (omega (h, arith))
unary_operator Lt h = absurd (omega (h, arith))
unary_operator Gt h = absurd (omega (h, arith))
unary_operator Le h = absurd (omega (h, arith))
unary_operator Ge h = absurd (omega (h, arith))
unary_operator Eq h = absurd (omega (h, arith))
unary_operator Ne h = absurd (omega (h, arith))

right_operand : (op : Op) (t u v : IntType) → operands op ≡ 2 → Represents (right_type op v t) u → IsRight op t u
right_operand Shl t u v h r = tt
right_operand Shr t u v h r = tt
right_operand Add t u v h r = r
right_operand Sub t u v h r = r
right_operand Mul t u v h r = r
right_operand Div t u v h r = r
right_operand Rem t u v h r = r
right_operand And t u v h r = r
right_operand Or t u v h r = r
right_operand Xor t u v h r = r
right_operand Lt t u v h r = r
right_operand Gt t u v h r = r
right_operand Le t u v h r = r
right_operand Ge t u v h r = r
right_operand Eq t u v h r = r
right_operand Ne t u v h r = r
right_operand Neg t u v h r = absurd (omega (h, arith))
right_operand BitNot t u v h r = absurd (omega (h, arith))
right_operand Not t u v h r = absurd (omega (h, arith))

-- ---- trees

pub constant_is : (ks : Table) (t : IntType) (z : ℤ) → InType t z → IsOfType ks t (constant t z)
constant_is ks t z h = record { typed = h; fits = λ n k. k }

kept : (ks : Table) (u t : IntType) (e : TreeOf ks.Variable) (b : Bool) → represents t u ≡ b → IsOfType ks u e → IsOfType ks t (kept_if b t e)
kept ks u t e true r h = record { typed = h.typed; fits = λ z k. test-Represents t u r z (h.fits z k) }
kept ks u t e false r h = record { typed = h.typed; fits = λ z k. k }

pub conversion_is : (ks : Table) (u t : IntType) (e : TreeOf ks.Variable) → IsOfType ks u e → IsOfType ks t (conversion u t e)
conversion_is ks u t (constant v z) h = constant_is ks t (wrapped t z) (wrapped_in t z)
conversion_is ks u t (variable x) h = kept ks u t (variable x) (represents t u) refl h
conversion_is ks u t (converted v e) h = kept ks u t (converted v e) (represents t u) refl h
conversion_is ks u t (unary op s v e) h = kept ks u t (unary op s v e) (represents t u) refl h
conversion_is ks u t (binary op s v a b) h = kept ks u t (binary op s v a b) (represents t u) refl h

folded_is : (ks : Table) (t : IntType) (e : TreeOf ks.Variable) (r : Result ℤ Fault) → IsOfType ks t e → ((z : ℤ) → r ≡ Ok z → InType t z) → IsOfType ks t (folded t e (Some r))
folded_is ks t e (Ok z) h k = constant_is ks t z (k z refl)
folded_is ks t e (Err f) h k = h

pub unary_is : (ks : Table) (op : Op) (s : Site) (t : IntType) (e : TreeOf ks.Variable) → operands op ≡ 1 → IsOfType ks t e → IsOfType ks (result_type op t) (unary_tree op s t e)
unary_is ks op s t e h k = by_form e k
  where
    plain : (e : TreeOf ks.Variable) → IsOfType ks t e → IsOfType ks (result_type op t) (unary op s t e)
    plain e k = record { typed = (unary_operator op h, k.typed, k.fits); fits = λ z q. q }

    by_form : (e : TreeOf ks.Variable) → IsOfType ks t e → IsOfType ks (result_type op t) (unary_tree op s t e)
    by_form (constant v z) k = folded_is ks (result_type op t) (unary op s t (constant v z)) (value_of op t z z) (plain (constant v z) k) (λ n e. value_in op t z z n e)
    by_form (variable x) k = plain (variable x) k
    by_form (converted v e) k = plain (converted v e) k
    by_form (unary o r v e) k = plain (unary o r v e) k
    by_form (binary o r v a b) k = plain (binary o r v a b) k

either_number : (ks : Table) (op : Op) (t : IntType) (e : TreeOf ks.Variable) → IsOfType ks (result_type op t) e → (a b : Option ℤ) → IsOfType ks (result_type op t) (folded (result_type op t) e (option_and_then (λ z. option_map (λ w. value_of op t z w) b) a))
either_number ks op t e h None b = h
either_number ks op t e h (Some z) None = h
either_number ks op t e h (Some z) (Some w) = folded_is ks (result_type op t) e (value_of op t z w) h (λ n q. value_in op t z w n q)

pub binary_is : (ks : Table) (op : Op) (s : Site) (t v : IntType) (a b : TreeOf ks.Variable) → operands op ≡ 2 → IsOfType ks t a → IsOfType ks (right_type op v t) b → IsOfType ks (result_type op t) (binary_tree op s t a b)
binary_is ks op s t v a b h k l =
    either_number ks op t (binary op s t a b) (record { typed = (k.typed, l.typed, k.fits, right_operand op t (type_of ks b) v h l.fits); fits = λ z q. q }) (number_in a) (number_in b)

pub operated_is : (ks : Table) (op : Op) (s : Site) (t u v : IntType) (a b : TreeOf ks.Variable) → operands op ≡ 2 → IsOfType ks u a → IsOfType ks v b → IsOfType ks (result_type op t) (operated_tree op s t u v a b)
operated_is ks op s t u v a b h k l = binary_is ks op s t v (conversion u t a) (conversion v (right_type op v t) b) h (conversion_is ks u t a k) (conversion_is ks v (right_type op v t) b l)

pub updated_is : (ks : Table) (op : Op) (s : Site) (t u v : IntType) (a b : TreeOf ks.Variable) → operands op ≡ 2 → IsOfType ks u a → IsOfType ks v b → IsOfType ks u (updated_tree op s t u v a b)
updated_is ks op s t u v a b h k l = conversion_is ks (result_type op t) u (operated_tree op s t u v a b) (operated_is ks op s t u v a b h k l)
