-- What a comparison that holds says of its operands.
use Rattle.std.specs.Prelude.{◌≡◌, ℕ, Bool, true, false, not, if◌then◌else◌, ℤ, pos, ◌+ℤ◌, ◌-ℤ◌, int_lt, int_le, Option, Some, None, Ok}
use Rattle.std.specs.Ordering.{int_eq}
use Rattle.std.specs.Int.{int_min, int_max}
use Rattle.pk_ctypes.specs.declared.types.IntType.TheVariants.{Int}
use Rattle.pk_ctypes.specs.declared.types.Op.{Op}
use Rattle.pk_ctypes.specs.declared.types.Op.TheVariants.{Add, Sub, Mul, Div, Rem, Shl, Shr, And, Or, Xor, Lt, Gt, Le, Ge, Eq, Ne, Neg, BitNot, Not}
use Rattle.pk_ctypes.specs.Classes.{OperatorClass, arithmetic, shift, comparison, negation, class_of}
use Rattle.pk_ctypes.specs.Classes as classes
use Rattle.pk_ctypes.specs.Operators.{is_not}
use Rattle.pk_interval.specs.Ranges.{Range, range_from, met}
use Rattle.pk_congr.specs.Classes.{Class, met as met_classes}
use Rattle.pk_graph.specs.Trees.{TreeOf, constant, variable, converted, unary, binary}
use Rattle.pk_graph.specs.Steps.{is_true, tree_value}
use Rattle.pk_graph.specs.Stores.{Stored, storing}
use Rattle.pk_value.specs.Known.{Known, IsOf, IsOneOf}
use Rattle.pk_value.specs.Values.{is_constant}
use Rattle.pk_octagons.specs.Reduced.{with_range}

-- ---- conditions

-- the comparison that holds where one doesn't
abbrev pub negated : Op → Op
negated Lt = Ge
negated Gt = Le
negated Le = Gt
negated Ge = Lt
negated Eq = Ne
negated Ne = Eq
negated Add = Add
negated Sub = Sub
negated Mul = Mul
negated Div = Div
negated Rem = Rem
negated Shl = Shl
negated Shr = Shr
negated And = And
negated Or = Or
negated Xor = Xor
negated Neg = Neg
negated BitNot = BitNot
negated Not = Not

-- the comparison of exchanged operands
abbrev pub flipped : Op → Op
flipped Lt = Gt
flipped Gt = Lt
flipped Le = Ge
flipped Ge = Le
flipped Eq = Eq
flipped Ne = Ne
flipped Add = Add
flipped Sub = Sub
flipped Mul = Mul
flipped Div = Div
flipped Rem = Rem
flipped Shl = Shl
flipped Shr = Shr
flipped And = And
flipped Or = Or
flipped Xor = Xor
flipped Neg = Neg
flipped BitNot = BitNot
flipped Not = Not

abbrev pub is_of_comparisons : OperatorClass → Bool
is_of_comparisons arithmetic = false
is_of_comparisons shift = false
is_of_comparisons comparison = true
is_of_comparisons classes.unary = false
is_of_comparisons negation = false

abbrev pub is_comparison : Op → Bool
is_comparison op = is_of_comparisons (class_of op)

-- a comparison of two trees
pub record Condition : Type 0 where
  pub op : Op
  pub left : TreeOf ℕ
  pub right : TreeOf ℕ

abbrev pub is_zero : TreeOf ℕ → Bool → Condition
is_zero e b = record { op = if b then Ne else Eq; left = e; right = constant Int (pos 0) }

-- What a tree's truth b means: behind each `!` a comparison or its negation, else that the tree is 0 or is not.
abbrev pub condition_of : TreeOf ℕ → Bool → Condition
condition_of (constant t n) b = is_zero (constant t n) b
condition_of (variable x) b = is_zero (variable x) b
condition_of (converted t e) b = is_zero (converted t e) b
condition_of (unary op s t e) b = if is_not op then condition_of e (not b) else is_zero (unary op s t e) b
condition_of (binary op s t a c) b =
    if is_comparison op then record { op = if b then op else negated op; left = a; right = c }
    else is_zero (binary op s t a c) b

-- the comparison holds of two numbers
abbrev pub test_of : Op → ℤ → ℤ → Bool
test_of Lt x y = int_lt x y
test_of Gt x y = int_lt y x
test_of Le x y = int_le x y
test_of Ge x y = int_le y x
test_of Eq x y = int_eq x y
test_of Ne x y = not (int_eq x y)
test_of op x y = true

-- its operands have values of which it holds
pub record HoldsIn (s : Stored) (c : Condition) : Type 0 where
  pub x : ℤ
  pub y : ℤ
  pub left_is : tree_value storing c.left s ≡ Ok x
  pub right_is : tree_value storing c.right s ≡ Ok y
  pub holds : test_of c.op x y ≡ true

-- ---- refining

abbrev pub with_both : Option Range → Option Class → Option Known
with_both None c = None
with_both (Some r) None = None
with_both (Some r) (Some c) = Some (record { range = r; class = c })

abbrev pub at_most : Known → ℤ → Option Known
at_most k z = with_range k (range_from k.range.lo (int_min k.range.hi z))

abbrev pub at_least : Known → ℤ → Option Known
at_least k z = with_range k (range_from (int_max k.range.lo z) k.range.hi)

-- a bound that is z moves by one
abbrev pub other_than : Known → ℤ → Option Known
other_than k z =
    with_range k (range_from (if int_eq k.range.lo z then k.range.lo +ℤ pos 1 else k.range.lo)
    (if int_eq k.range.hi z then k.range.hi -ℤ pos 1 else k.range.hi))

-- x, where its comparison with one of v holds
abbrev pub refined : Op → Known → Known → Option Known
refined Lt x v = at_most x (v.range.hi -ℤ pos 1)
refined Le x v = at_most x v.range.hi
refined Gt x v = at_least x (v.range.lo +ℤ pos 1)
refined Ge x v = at_least x v.range.lo
refined Eq x v = with_both (met x.range v.range) (met_classes x.class v.class)
refined Ne x v = if is_constant v then other_than x v.range.lo else Some x
refined op x v = Some x

-- A tree's truth is that of its condition; and of a comparison that holds both operands are kept.
pub record GuardsKeep : Type 0 where
  pub condition : (e : TreeOf ℕ) (b : Bool) (s : Stored) (z : ℤ) → tree_value storing e s ≡ Ok z → is_true z ≡ b →
      HoldsIn s (condition_of e b)
  pub left : (op : Op) (x v : Known) (a b : ℤ) → IsOf x a → IsOf v b → test_of op a b ≡ true →
      IsOneOf (refined op x v) a
  pub right : (op : Op) (x v : Known) (a b : ℤ) → IsOf x a → IsOf v b → test_of op a b ≡ true →
      IsOneOf (refined (flipped op) v x) b
