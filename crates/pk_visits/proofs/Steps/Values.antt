-- What trees give whose constant parts are folded, and whose conversions are left out where they change nothing.
use Rattle.std.proofs.Common.{◌≡◌, Bool, true, false, ◌&&◌, refl, sym, ap, ◌∙◌, arith, ℤ, Some}
use Rattle.std.specs.Prelude.{Result, Ok, Err, int_le, ◌≤ℤ◌}
use Rattle.std.proofs.lemmas.Int.{ints}
use Rattle.pk_ctypes.specs.declared.faults.Fault.{Fault}
use Rattle.pk_ctypes.specs.declared.types.IntType.{IntType}
use Rattle.pk_ctypes.specs.declared.types.Op.{Op}
use Rattle.pk_ctypes.specs.Types.{InType, low_of, high_of, represents, wrapped}
use Rattle.pk_ctypes.specs.Conversions.{promoted}
use Rattle.pk_ctypes.specs.declared.types.IntType.TheVariants as types
use Rattle.pk_ctypes.specs.declared.types.Op.TheVariants.{Add, Sub, Mul, Div, Rem, Shl, Shr, And, Or, Xor, Lt, Gt, Le, Ge, Eq, Ne, Neg, BitNot, Not}
use Rattle.pk_ctypes.specs.Operators.{value_of, result_type, right_number}
use Rattle.pk_ctypes.proofs.Values.{wrapped_inside, test_le}
use Rattle.pk_graph.specs.declared.trees.Site.{Site}
use Rattle.pk_graph.specs.Trees.{constant, variable, converted, unary, binary}
use Rattle.pk_graph.specs.Steps.{tree_value, and_then, at_site, Failure}
use Rattle.pk_draft.specs.Folding.{conversion, kept_if, folded, unary_tree, binary_tree, operated_tree, right_type}
use Rattle.pk_meaning.specs.Steps.{operated}
use Rattle.pk_visits.proofs.Slots.{SlotTree, Memory, memory}

first_true : (a b : Bool) → (a && b) ≡ true → a ≡ true
first_true true b e = refl
first_true false b e = e

second_true : (a b : Bool) → (a && b) ≡ true → b ≡ true
second_true true b e = e
second_true false b e = grind (arith, e)

-- a type that holds each number of another converts its numbers to themselves
pub unchanged : (t u : IntType) (v : ℤ) → represents t u ≡ true → InType u v → wrapped t v ≡ v
unchanged t u v h k = wrapped_inside t v (record { from = low; to = high }) where
  first : int_le (low_of t) (low_of u) ≡ true
  first = first_true (int_le (low_of t) (low_of u)) (int_le (high_of u) (high_of t)) h

  second : int_le (high_of u) (high_of t) ≡ true
  second = second_true (int_le (low_of t) (low_of u)) (int_le (high_of u) (high_of t)) h

  low : low_of t ≤ℤ v
  low = let a = test_le (low_of t) (low_of u) first in omega (arith, ints, a, k.from)

  high : v ≤ℤ high_of t
  high = let a = test_le (high_of u) (high_of t) second in omega (arith, ints, a, k.to)

-- ---- conversions

kept_value : (u t : IntType) (e : SlotTree) (v : ℤ) (m : Memory) (b : Bool) → (b ≡ true → wrapped t v ≡ v) → tree_value memory e m ≡ Ok v
    → tree_value memory (kept_if b t e) m ≡ Ok (wrapped t v)
kept_value u t e v m true h k = k ∙ ap Ok (sym (h refl))
kept_value u t e v m false h k = ap (λ r. and_then r (λ w. Ok (wrapped t w))) k

pub conversion_value : (u t : IntType) (e : SlotTree) (v : ℤ) (m : Memory) → InType u v → tree_value memory e m ≡ Ok v → tree_value memory (conversion u t e) m ≡ Ok (wrapped t v)
conversion_value u t (constant s z) v m i k = ap (λ r. and_then r (λ w. Ok (wrapped t w))) k
conversion_value u t (variable x) v m i k = kept_value u t (variable x) v m (represents t u) (λ h. unchanged t u v h i) k
conversion_value u t (converted s e) v m i k = kept_value u t (converted s e) v m (represents t u) (λ h. unchanged t u v h i) k
conversion_value u t (unary op s r e) v m i k = kept_value u t (unary op s r e) v m (represents t u) (λ h. unchanged t u v h i) k
conversion_value u t (binary op s r a b) v m i k = kept_value u t (binary op s r a b) v m (represents t u) (λ h. unchanged t u v h i) k

-- a fault stays
kept_fault : (t : IntType) (e : SlotTree) (f : Failure) (m : Memory) (b : Bool) → tree_value memory e m ≡ Err f → tree_value memory (kept_if b t e) m ≡ Err f
kept_fault t e f m true k = k
kept_fault t e f m false k = ap (λ r. and_then r (λ w. Ok (wrapped t w))) k

pub conversion_fault : (u t : IntType) (e : SlotTree) (f : Failure) (m : Memory) → tree_value memory e m ≡ Err f → tree_value memory (conversion u t e) m ≡ Err f
conversion_fault u t (constant s z) f m k = absurd (grind (arith, k))
conversion_fault u t (variable x) f m k = kept_fault t (variable x) f m (represents t u) k
conversion_fault u t (converted s e) f m k = kept_fault t (converted s e) f m (represents t u) k
conversion_fault u t (unary op s r e) f m k = kept_fault t (unary op s r e) f m (represents t u) k
conversion_fault u t (binary op s r a b) f m k = kept_fault t (binary op s r a b) f m (represents t u) k

-- what gives a number gives one after a conversion
kept_ok : (t : IntType) (e : SlotTree) (v : ℤ) (m : Memory) (b : Bool) → tree_value memory e m ≡ Ok v → (w : ℤ) × (tree_value memory (kept_if b t e) m ≡ Ok w)
kept_ok t e v m true k = (v, k)
kept_ok t e v m false k = (wrapped t v, ap (λ r. and_then r (λ w. Ok (wrapped t w))) k)

pub conversion_ok : (u t : IntType) (e : SlotTree) (v : ℤ) (m : Memory) → tree_value memory e m ≡ Ok v → (w : ℤ) × (tree_value memory (conversion u t e) m ≡ Ok w)
conversion_ok u t (constant s z) v m k = (wrapped t z, refl)
conversion_ok u t (variable x) v m k = kept_ok t (variable x) v m (represents t u) k
conversion_ok u t (converted s e) v m k = kept_ok t (converted s e) v m (represents t u) k
conversion_ok u t (unary op s r e) v m k = kept_ok t (unary op s r e) v m (represents t u) k
conversion_ok u t (binary op s r a b) v m k = kept_ok t (binary op s r a b) v m (represents t u) k

-- ---- operators

folded_value : (t : IntType) (e : SlotTree) (s : Site) (r : Result ℤ Fault) (m : Memory) → tree_value memory e m ≡ at_site s r → tree_value memory (folded t e (Some r)) m ≡ at_site s r
folded_value t e s (Ok n) m k = refl
folded_value t e s (Err f) m k = k

pub unary_is : (op : Op) (s : Site) (t : IntType) (e : SlotTree) (m : Memory)
    → tree_value memory (unary_tree op s t e) m ≡ and_then (tree_value memory e m) (λ v. at_site s (value_of op t v v))
unary_is op s t (constant u z) m = folded_value (result_type op t) (unary op s t (constant u z)) s (value_of op t z z) m refl
unary_is op s t (variable x) m = refl
unary_is op s t (converted u e) m = refl
unary_is op s t (unary o r u e) m = refl
unary_is op s t (binary o r u a b) m = refl

-- where not both operands are constants nothing is folded
abbrev Is : (op : Op) (s : Site) (t : IntType) (a b e : SlotTree) → Memory → Type 0
Is op s t a b e m = tree_value memory e m ≡ and_then (tree_value memory a m) (λ v. and_then (tree_value memory b m) (λ w. at_site s (value_of op t v w)))

constant_first : (op : Op) (s : Site) (t u : IntType) (z : ℤ) (b : SlotTree) (m : Memory) → Is op s t (constant u z) b (binary_tree op s t (constant u z) b) m
constant_first op s t u z (constant r w) m = folded_value (result_type op t) (binary op s t (constant u z) (constant r w)) s (value_of op t z w) m refl
constant_first op s t u z (variable x) m = refl
constant_first op s t u z (converted r e) m = refl
constant_first op s t u z (unary o q r e) m = refl
constant_first op s t u z (binary o q r a b) m = refl

pub binary_is : (op : Op) (s : Site) (t : IntType) (a b : SlotTree) (m : Memory) → Is op s t a b (binary_tree op s t a b) m
binary_is op s t (constant u z) b m = constant_first op s t u z b m
binary_is op s t (variable x) b m = refl
binary_is op s t (converted u e) b m = refl
binary_is op s t (unary o r u e) b m = refl
binary_is op s t (binary o r u a c) b m = refl

-- ---- two operands

promoted_holds : (u : IntType) → represents (promoted u) u ≡ true
promoted_holds types.Char = refl
promoted_holds types.SChar = refl
promoted_holds types.UChar = refl
promoted_holds types.Short = refl
promoted_holds types.UShort = refl
promoted_holds types.Int = refl
promoted_holds types.UInt = refl
promoted_holds types.Long = refl
promoted_holds types.ULong = refl
promoted_holds types.LLong = refl
promoted_holds types.ULLong = refl

right_is : (op : Op) (u t : IntType) (w : ℤ) → InType u w → wrapped (right_type op u t) w ≡ right_number op t w
right_is Shl u t w i = unchanged (promoted u) u w (promoted_holds u) i
right_is Shr u t w i = unchanged (promoted u) u w (promoted_holds u) i
right_is Add u t w i = refl
right_is Sub u t w i = refl
right_is Mul u t w i = refl
right_is Div u t w i = refl
right_is Rem u t w i = refl
right_is And u t w i = refl
right_is Or u t w i = refl
right_is Xor u t w i = refl
right_is Lt u t w i = refl
right_is Gt u t w i = refl
right_is Le u t w i = refl
right_is Ge u t w i = refl
right_is Eq u t w i = refl
right_is Ne u t w i = refl
right_is Neg u t w i = refl
right_is BitNot u t w i = refl
right_is Not u t w i = refl

pub operated_value : (op : Op) (s : Site) (t u q : IntType) (a b : SlotTree) (v w : ℤ) (m : Memory) → InType u v → tree_value memory a m ≡ Ok v → InType q w → tree_value memory b m ≡ Ok w
    → tree_value memory (operated_tree op s t u q a b) m ≡ at_site s (operated op t v w)
operated_value op s t u q a b v w m i k j l =
    binary_is op s t (conversion u t a) (conversion q (right_type op q t) b) m
    ∙ ap (λ r. and_then r (λ x. and_then (tree_value memory (conversion q (right_type op q t) b) m) (λ y. at_site s (value_of op t x y)))) (conversion_value u t a v m i k)
    ∙ ap (λ r. and_then r (λ y. at_site s (value_of op t (wrapped t v) y))) (conversion_value q (right_type op q t) b w m j l)
    ∙ ap (λ y. at_site s (value_of op t (wrapped t v) y)) (right_is op q t w j)

-- a fault of the left operand comes first
pub operated_left : (op : Op) (s : Site) (t u q : IntType) (a b : SlotTree) (f : Failure) (m : Memory) → tree_value memory a m ≡ Err f → tree_value memory (operated_tree op s t u q a b) m ≡ Err f
operated_left op s t u q a b f m k =
    binary_is op s t (conversion u t a) (conversion q (right_type op q t) b) m
    ∙ ap (λ r. and_then r (λ x. and_then (tree_value memory (conversion q (right_type op q t) b) m) (λ y. at_site s (value_of op t x y)))) (conversion_fault u t a f m k)

pub operated_right : (op : Op) (s : Site) (t u q : IntType) (a b : SlotTree) (v : ℤ) (f : Failure) (m : Memory) → tree_value memory a m ≡ Ok v → tree_value memory b m ≡ Err f
    → tree_value memory (operated_tree op s t u q a b) m ≡ Err f
operated_right op s t u q a b v f m k l =
    let c = conversion_ok u t a v m k in
    binary_is op s t (conversion u t a) (conversion q (right_type op q t) b) m
    ∙ ap (λ r. and_then r (λ x. and_then (tree_value memory (conversion q (right_type op q t) b) m) (λ y. at_site s (value_of op t x y)))) c.1
    ∙ ap (λ r. and_then r (λ y. at_site s (value_of op t c.0 y))) (conversion_fault q (right_type op q t) b f m l)

pub unary_value : (op : Op) (s : Site) (t u : IntType) (e : SlotTree) (v : ℤ) (m : Memory) → InType u v → tree_value memory e m ≡ Ok v
    → tree_value memory (unary_tree op s t (conversion u t e)) m ≡ at_site s (value_of op t (wrapped t v) (wrapped t v))
unary_value op s t u e v m i k =
    unary_is op s t (conversion u t e) m ∙ ap (λ r. and_then r (λ x. at_site s (value_of op t x x))) (conversion_value u t e v m i k)

pub unary_fault : (op : Op) (s : Site) (t u : IntType) (e : SlotTree) (f : Failure) (m : Memory) → tree_value memory e m ≡ Err f → tree_value memory (unary_tree op s t (conversion u t e)) m ≡ Err f
unary_fault op s t u e f m k = unary_is op s t (conversion u t e) m ∙ ap (λ r. and_then r (λ x. at_site s (value_of op t x x))) (conversion_fault u t e f m k)
