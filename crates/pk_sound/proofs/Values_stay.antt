-- What is known of a tree's value is a value of the tree's type.
use Rattle.std.specs.Prelude.{◌≡◌, ℕ, ◌-◌, ◌<◌, ◌/◌, ◌^◌, ◌==◌, Bool, true, false, ◌&&◌, if◌then◌else◌, ℤ, pos, negsuc, neg_ℤ, ◌+ℤ◌, ◌-ℤ◌, ◌*ℤ◌, ◌≤ℤ◌, int_le, int_div, unsigned_abs, length, Option, Some, None, IfSome, Result, Ok, Err}
use Rattle.std.specs.Int.{int_min, int_max}
use Rattle.std.proofs.Common.{arith, refl, sym, subst}
use Rattle.std.proofs.lemmas.Int.{ints, clamps}
use Rattle.std.proofs.lemmas.Bool.Decides.{nat_tests}
use Rattle.std.proofs.lemmas.List.{length-map}
use Rattle.pk_ctypes.specs.declared.types.IntType.{IntType}
use Rattle.pk_ctypes.specs.declared.types.Op.{Op}
use Rattle.pk_ctypes.specs.declared.types.Op.TheVariants.{Add, Sub, Mul, Div, Rem, Shl, Shr, And, Or, Xor, Lt, Gt, Le, Ge, Eq, Ne, Neg, BitNot, Not}
use Rattle.pk_ctypes.specs.declared.faults.Fault.{Fault}
use Rattle.pk_ctypes.specs.Types.{low_of, high_of, width_of, size_of, is_signed_of, InType, wrapped}
use Rattle.pk_ctypes.specs.Operators.{value_of, result_type}
use Rattle.pk_interval.specs.declared.outcome.Outcome.{Outcome}
use Rattle.pk_interval.specs.declared.outcome.Outcome.TheVariants.{Empty, Within, TooLarge}
use Rattle.pk_interval.specs.Ranges.{Range, IsIn, single, whole, range_from, joined}
use Rattle.pk_interval.specs.Fitting.{clamped, moved, shifted, unmoved, finish_of}
use Rattle.pk_interval.specs.Operators.{within_if, hull_of, product_of, hull_if, corner_quotients, above_zero, below_zero, both_parts, greatest_of, rest_low, rest_high, rests_within, range_rest, counts_of, shiftable, shifted_right, left_by, right_by, digits_of, is_natural, range_and, range_or, complement_of, truths, is_below, is_at_most, is_one, are_apart as ranges_apart, range_of}
use Rattle.pk_interval.proofs.Keeping.{stays}
use Rattle.pk_interval.proofs.Moves.{from_in, shifted_in}
use Rattle.pk_interval.proofs.Numbers.{left_rises}
use Rattle.pk_congr.specs.Classes.{Class, IsReduced, is_held, constant, every, class_of, class_if, are_apart, int_gcd}
use Rattle.pk_congr.specs.Operators.{result_of, wrapped_class, are_products_held, is_divided, is_counted, complement_total}
use Rattle.pk_ctypes.proofs.Small.{both_true}
use Rattle.pk_congr.proofs.Numbers.{class_reduced, test_held}
use Rattle.pk_graph.specs.Trees.{TreeOf, constant as constant_tree, variable, converted as converted_tree, unary, binary}
use Rattle.pk_graph.specs.Kinds.{type_of, IsTyped}
use Rattle.pk_value.specs.Known.{Known, exactly, red_known}
use Rattle.pk_value.specs.Values.{one_if, compared, red_as, fitted, from_table, is_constant, exact_if, operated, converted}
use Rattle.pk_value.proofs.Reducing.{constant_of}
use Rattle.pk_value.proofs.Sound.{value_in, natural, product_from_zero as product_natural}
use Rattle.pk_octagons.specs.Values.{type_at, IsValue}
use Rattle.pk_state.specs.Layouts.{Layout}
use Rattle.pk_state.specs.Facts.{Facts, AreFactsIf}
use Rattle.pk_state.specs.Changes.{known_in}
use Rattle.pk_state.proofs.Changed.{changes_stay}
use Rattle.pk_state.proofs.Held.{every_reduced}
use Rattle.pk_state.proofs.Stays.{red_value}
use Rattle.pk_transfer.specs.Trees.{known_with, tree_known, kind_of, kinds_of}
use Rattle.pk_transfer.proofs.Told.{kinds_type}
use Rattle.pk_state.proofs.Tops.{any_value}

-- ---- results have a number

abbrev HasSome : Outcome → Type 0
HasSome Empty = Unit {0}
HasSome (Within r) = r.lo ≤ℤ r.hi
HasSome TooLarge = Unit {0}

abbrev IsSome : Range → Type 0
IsSome r = r.lo ≤ℤ r.hi

within_some : (o : Option Range) → IfSome o IsSome → HasSome (within_if o)
within_some None h = tt
within_some (Some r) h = h

hull_some : (p q r s : ℤ) → IsSome (hull_of p q r s)
hull_some p q r s = omega (arith, ints, clamps)

products_some : (p q r s : Option ℤ) → HasSome (hull_if p q r s)
products_some (Some p) (Some q) (Some r) (Some s) = hull_some p q r s
products_some (Some p) (Some q) (Some r) None = tt
products_some (Some p) (Some q) None s = tt
products_some (Some p) None r s = tt
products_some None q r s = tt

joined_some : (a b : Range) → IsSome a → IsSome (joined a b)
joined_some a b h = omega (arith, ints, clamps, h)

corners_some : (a d : Range) → IsSome (corner_quotients a d)
corners_some a d = hull_some (int_div a.lo d.lo) (int_div a.lo d.hi) (int_div a.hi d.lo) (int_div a.hi d.hi)

quotients_some : (a : Range) (o p : Option Range) → IfSome (both_parts a o p) IsSome
quotients_some a None None = tt
quotients_some a (Some d) None = corners_some a d
quotients_some a None (Some e) = corners_some a e
quotients_some a (Some d) (Some e) = joined_some (corner_quotients a d) (corner_quotients a e) (corners_some a d)

rests_some : (lo hi m : ℤ) → pos 0 ≤ℤ m → rest_low lo m ≤ℤ rest_high hi m
rests_some lo hi m h = by (int_le (pos 0) lo) (int_le hi (pos 0)) refl refl
  where
    by : (b c : Bool) → int_le (pos 0) lo ≡ b → int_le hi (pos 0) ≡ c → (if b then pos 0 else int_max lo (neg_ℤ m)) ≤ℤ (if c then pos 0 else int_min hi m)
    by true true e f = omega (arith, ints)
    by true false e f = omega (arith, ints, clamps, f, h)
    by false true e f = omega (arith, ints, clamps, e, h)
    by false false e f = omega (arith, ints, clamps, e, f, h)

rest_some : (a b : Range) → IfSome (range_rest a b) IsSome
rest_some a b = by (greatest_of b == 0) refl
  where
    by : (t : Bool) → (greatest_of b == 0) ≡ t → IfSome (if t then None else Some (rests_within a (pos (greatest_of b) -ℤ pos 1))) IsSome
    by true e = tt
    by false e =
        let some : 0 < greatest_of b = grind (arith, nat_tests) in
        rests_some a.lo a.hi (pos (greatest_of b) -ℤ pos 1) (omega (arith, ints, some))

from_some : (lo hi : ℤ) → IfSome (range_from lo hi) (λ (r : Range). (lo ≡ r.lo) × IsSome r)
from_some lo hi = by (int_le lo hi) refl
  where
    by : (b : Bool) → int_le lo hi ≡ b → IfSome (let r : Range = record { lo = lo; hi = hi } in if b then Some r else None) (λ (r : Range). (lo ≡ r.lo) × IsSome r)
    by true e = (refl, omega (arith, ints, e))
    by false e = tt

left_some : (lo hi lo' hi' : ℤ) → pos 0 ≤ℤ lo → pos 0 ≤ℤ lo' → IfSome (left_by (range_from lo hi) (range_from lo' hi')) IsSome
left_some lo hi lo' hi' h k = by (range_from lo hi) (range_from lo' hi') (from_some lo hi) (from_some lo' hi')
  where
    by : (o p : Option Range) → IfSome o (λ (r : Range). (lo ≡ r.lo) × IsSome r) → IfSome p (λ (r : Range). (lo' ≡ r.lo) × IsSome r) → IfSome (left_by o p) IsSome
    by None p f g = tt
    by (Some a) None f g = tt
    by (Some a) (Some c) f g = left_rises a.lo a.hi c.lo c.hi (omega (arith, ints, f.0, h)) f.1 (omega (arith, ints, g.0, k)) g.1

right_some : (a : Range) (o : Option Range) → IfSome (right_by a o) IsSome
right_some a None = tt
right_some a (Some c) = hull_some (shifted_right a.lo c.lo) (shifted_right a.lo c.hi) (shifted_right a.hi c.lo) (shifted_right a.hi c.hi)

whole_some : (t : IntType) → IsSome (whole t)
whole_some t = (any_value t).some

and_some : (t : IntType) (a b : Range) → IsSome a → IsSome b → IsSome (range_and t a b)
and_some t a b h k = by (int_le (pos 0) a.lo) (int_le (pos 0) b.lo) refl refl
  where
    by : (m n : Bool) → int_le (pos 0) a.lo ≡ m → int_le (pos 0) b.lo ≡ n
        → IsSome (if m then record { lo = pos 0; hi = if n then int_min a.hi b.hi else a.hi } else (if n then record { lo = pos 0; hi = b.hi } else whole t))
    by true true e f = omega (arith, ints, clamps, e, f, h, k)
    by true false e f = omega (arith, ints, e, h)
    by false true e f = omega (arith, ints, f, k)
    by false false e f = whole_some t

or_some : (t : IntType) (a b : Range) → IsSome (range_or t a b)
or_some t a b = by (is_natural a && is_natural b)
  where
    by : (m : Bool) → IsSome (if m then record { lo = pos 0; hi = pos (2 ^ digits_of 64 (unsigned_abs (int_max a.hi b.hi)) - 1) } else whole t)
    by true = omega (arith, ints)
    by false = whole_some t

truths_some : (m n : Bool) → IsSome (truths m n)
truths_some true n = omega (arith, ints)
truths_some false true = omega (arith, ints)
truths_some false false = omega (arith, ints)

complement_some : (t : IntType) (a : Range) → IsSome a → complement_of t a.hi ≤ℤ complement_of t a.lo
complement_some t a h = by (is_signed_of t)
  where
    by : (m : Bool) → (if m then negsuc 0 -ℤ a.hi else high_of t -ℤ a.hi) ≤ℤ (if m then negsuc 0 -ℤ a.lo else high_of t -ℤ a.lo)
    by true = omega (arith, ints, h)
    by false = omega (arith, ints, h)

range_some : (op : Op) (t : IntType) (a b : Range) → IsSome a → IsSome b → HasSome (range_of op t a b)
range_some Add t a b h k = omega (arith, ints, h, k)
range_some Sub t a b h k = omega (arith, ints, h, k)
range_some Mul t a b h k = products_some (product_of a.lo b.lo) (product_of a.lo b.hi) (product_of a.hi b.lo) (product_of a.hi b.hi)
range_some Div t a b h k = within_some (both_parts a (above_zero b) (below_zero b)) (quotients_some a (above_zero b) (below_zero b))
range_some Rem t a b h k = within_some (range_rest a b) (rest_some a b)
range_some Shl t a b h k = within_some (left_by (shiftable a) (counts_of t b)) (left_some (int_max a.lo (pos 0)) a.hi (int_max b.lo (pos 0)) (int_min b.hi (pos (width_of t) -ℤ pos 1)) (omega (arith, ints, clamps)) (omega (arith, ints, clamps)))
range_some Shr t a b h k = within_some (right_by a (counts_of t b)) (right_some a (counts_of t b))
range_some And t a b h k = and_some t a b h k
range_some Or t a b h k = or_some t a b
range_some Xor t a b h k = or_some t a b
range_some Lt t a b h k = truths_some (is_below a b) (is_at_most b a)
range_some Gt t a b h k = truths_some (is_below b a) (is_at_most a b)
range_some Le t a b h k = truths_some (is_at_most a b) (is_below b a)
range_some Ge t a b h k = truths_some (is_at_most b a) (is_below a b)
range_some Eq t a b h k = truths_some (is_one a b) (ranges_apart a b)
range_some Ne t a b h k = truths_some (ranges_apart a b) (is_one a b)
range_some Neg t a b h k = omega (arith, ints, h)
range_some BitNot t a b h k = complement_some t a h
range_some Not t a b h k = truths_some (is_one a (single (pos 0))) (ranges_apart a (single (pos 0)))

one_some : (b : Bool) (z : ℤ) (o : Outcome) → HasSome o → HasSome (one_if b z o)
one_some true z o h = omega (arith, ints)
one_some false z o h = h

compared_some : (op : Op) (a b : Class) (o : Outcome) → HasSome o → HasSome (compared op a b o)
compared_some Eq a b o h = one_some (are_apart a b) (pos 0) o h
compared_some Ne a b o h = one_some (are_apart a b) (pos 1) o h
compared_some Not a b o h = one_some (are_apart a (constant (pos 0))) (pos 0) o h
compared_some Add a b o h = h
compared_some Sub a b o h = h
compared_some Mul a b o h = h
compared_some Div a b o h = h
compared_some Rem a b o h = h
compared_some Shl a b o h = h
compared_some Shr a b o h = h
compared_some And a b o h = h
compared_some Or a b o h = h
compared_some Xor a b o h = h
compared_some Lt a b o h = h
compared_some Gt a b o h = h
compared_some Le a b o h = h
compared_some Ge a b o h = h
compared_some Neg a b o h = h
compared_some BitNot a b o h = h

-- ---- classes

abbrev pub Reduced : Class → Type 0
Reduced c = IsReduced c.m c.r

pub if_reduced : (m r : ℤ) → pos 0 ≤ℤ m → Reduced (class_if m r)
if_reduced m r h = by (is_held m && is_held r) refl
  where
    by : (b : Bool) → (is_held m && is_held r) ≡ b → Reduced (if b then class_of m r else every)
    by true e = let both = both_true (is_held m) (is_held r) e in class_reduced m r h (test_held m both.0) (test_held r both.1)
    by false e = every_reduced

either_reduced : (b : Bool) (c : Class) → Reduced c → Reduced (if b then c else every)
either_reduced true c h = h
either_reduced false c h = every_reduced

result_reduced : (op : Op) (t : IntType) (a b : Class) → Reduced a → Reduced (result_of op t a b)
result_reduced Add t a b h = if_reduced (int_gcd a.m b.m) (a.r +ℤ b.r) (natural _)
result_reduced Sub t a b h = if_reduced (int_gcd a.m b.m) (a.r -ℤ b.r) (natural _)
result_reduced Mul t a b h =
    let g = int_gcd (int_gcd (a.m *ℤ b.m) (a.m *ℤ b.r)) (b.m *ℤ a.r) in
    either_reduced (are_products_held a b) (class_if g (a.r *ℤ b.r)) (if_reduced g (a.r *ℤ b.r) (natural _))
result_reduced Div t a b h =
    let g = pos (unsigned_abs a.m / unsigned_abs b.r) in
    either_reduced (is_divided a b) (class_if g (int_div a.r b.r)) (if_reduced g (int_div a.r b.r) (natural _))
result_reduced Rem t a b h = if_reduced (int_gcd (int_gcd a.m b.m) b.r) a.r (natural _)
result_reduced Shl t a b h =
    let g = a.m *ℤ pos (2 ^ unsigned_abs b.r) in
    either_reduced (is_counted t b) (class_if g (a.r *ℤ pos (2 ^ unsigned_abs b.r))) (if_reduced g (a.r *ℤ pos (2 ^ unsigned_abs b.r)) (product_natural a.m (2 ^ unsigned_abs b.r) h.from))
result_reduced Shr t a b h = every_reduced
result_reduced And t a b h = every_reduced
result_reduced Or t a b h = every_reduced
result_reduced Xor t a b h = every_reduced
result_reduced Lt t a b h = every_reduced
result_reduced Gt t a b h = every_reduced
result_reduced Le t a b h = every_reduced
result_reduced Ge t a b h = every_reduced
result_reduced Eq t a b h = every_reduced
result_reduced Ne t a b h = every_reduced
result_reduced Neg t a b h = if_reduced a.m (neg_ℤ a.r) h.from
result_reduced BitNot t a b h = if_reduced a.m (complement_total t -ℤ a.r) h.from
result_reduced Not t a b h = every_reduced

wrapped_reduced : (t : IntType) (c : Class) (o : Option ℤ) → Reduced c → Reduced (wrapped_class t c o)
wrapped_reduced t c (Some added) h = if_reduced c.m (c.r +ℤ added) h.from
wrapped_reduced t c None h = if_reduced (int_gcd c.m (pos (size_of t))) c.r (natural _)

-- ---- values

red_stays : (t : IntType) (k : Known) → IsValue t k → IfSome (red_known k) (IsValue t)
red_stays t k h = by (red_known k) refl
  where
    by : (o : Option Known) → red_known k ≡ o → IfSome o (IsValue t)
    by None e = tt
    by (Some r) e = red_value t k r h e

as_value : (t : IntType) (r : Range) (c : Class) → IsIn t r → IsSome r → Reduced c → IfSome (red_as r c) (IsValue t)
as_value t r c i s h = red_stays t (record { range = r; class = c }) (record { inside = i; some = s; class = h })

shifted_some : (t : IntType) (r : Range) → IsSome r → IsSome (shifted t r).0
shifted_some t r h = by (int_le (r.hi +ℤ (wrapped t r.lo -ℤ r.lo)) (high_of t))
  where
    by : (b : Bool) → (let p : Range × Option ℤ = (if b then (moved r (wrapped t r.lo -ℤ r.lo), Some (wrapped t r.lo -ℤ r.lo)) else (whole t, None)) in IsSome p.0)
    by true = omega (arith, ints, h)
    by false = whole_some t

clamped_value : (t : IntType) (o : Option Range) (c : Class) → IfSome o (IsIn t) → IfSome o IsSome → Reduced c → IfSome (fitted t (unmoved o) c) (IsValue t)
clamped_value t None c i s h = tt
clamped_value t (Some r) c i s h = as_value t r (wrapped_class t c (Some (pos 0))) i s (wrapped_reduced t c (Some (pos 0)) h)

clamped_some : (lo hi : ℤ) → IfSome (range_from lo hi) IsSome
clamped_some lo hi = by (int_le lo hi) refl
  where
    by : (b : Bool) → int_le lo hi ≡ b → IfSome (let r : Range = record { lo = lo; hi = hi } in if b then Some r else None) IsSome
    by true e = omega (arith, ints, e)
    by false e = tt

finished_value : (t : IntType) (o : Outcome) (c : Class) → HasSome o → Reduced c → IfSome (fitted t (finish_of t o) c) (IsValue t)
finished_value t Empty c s h = tt
finished_value t (Within r) c s h = by (is_signed_of t)
  where
    by : (b : Bool) → IfSome (fitted t (if b then unmoved (clamped t r) else Some (shifted t r)) c) (IsValue t)
    by true = clamped_value t (clamped t r) c (from_in t (int_max r.lo (low_of t)) (int_min r.hi (high_of t)) (omega (arith, ints, clamps)) (omega (arith, ints, clamps))) (clamped_some (int_max r.lo (low_of t)) (int_min r.hi (high_of t))) h
    by false = as_value t (shifted t r).0 (wrapped_class t c (shifted t r).1) (shifted_in t r s) (shifted_some t r s) (wrapped_reduced t c (shifted t r).1 h)
finished_value t TooLarge c s h = as_value t (whole t) (wrapped_class t c None) (stays.whole_in t) (whole_some t) (wrapped_reduced t c None h)

pub exactly_value : (t : IntType) (z : ℤ) → InType t z → IsValue t (exactly z)
exactly_value t z i = record { inside = record { from = i; to = i }; some = omega (arith, ints); class = (constant_of t z i).reduced }

table_value : (op : Op) (t : IntType) (a b : Known) → a.range.lo ≤ℤ a.range.hi → b.range.lo ≤ℤ b.range.hi → Reduced a.class → IfSome (from_table op t a b) (IsValue (result_type op t))
table_value op t a b s u h =
    finished_value (result_type op t) (compared op a.class b.class (range_of op t a.range b.range)) (result_of op t a.class b.class)
    (compared_some op a.class b.class (range_of op t a.range b.range) (range_some op t a.range b.range s u)) (result_reduced op t a.class b.class h)

exact_value : (op : Op) (t : IntType) (x y : ℤ) (o : Option Known) (r : Result ℤ Fault) → value_of op t x y ≡ r → IfSome o (IsValue (result_type op t)) → IfSome (exact_if r o) (IsValue (result_type op t))
exact_value op t x y o (Ok z) e h = exactly_value (result_type op t) z (value_in op t x y z e)
exact_value op t x y o (Err f) e h = h

pub operated_value : (op : Op) (t u w : IntType) (a b : Known) → IsValue u a → IsValue w b → IfSome (operated op t a b) (IsValue (result_type op t))
operated_value op t u w a b h k = by (is_constant a && is_constant b) (table_value op t a b h.some k.some h.class)
  where
    by : (m : Bool) → IfSome (from_table op t a b) (IsValue (result_type op t)) → IfSome (if m then exact_if (value_of op t a.range.lo b.range.lo) (from_table op t a b) else from_table op t a b) (IsValue (result_type op t))
    by true i = exact_value op t a.range.lo b.range.lo (from_table op t a b) (value_of op t a.range.lo b.range.lo) refl i
    by false i = i

pub converted_value : (t u : IntType) (k : Known) → IsValue u k → IfSome (converted t k) (IsValue t)
converted_value t u k h =
    as_value t (shifted t k.range).0 (wrapped_class t k.class (shifted t k.range).1) (shifted_in t k.range h.some) (shifted_some t k.range h.some) (wrapped_reduced t k.class (shifted t k.range).1 h.class)

-- ---- trees

with_value : (P Q : Known → Type 0) (o : Option Known) (f : Known → Option Known) → IfSome o P → ((k : Known) → P k → IfSome (f k) Q) → IfSome (known_with o f) Q
with_value P Q None f h g = tt
with_value P Q (Some k) f h g = g k h

known_value : (l : Layout) (f : Option Facts) (x : ℕ) → AreFactsIf l f → x < length l.types → IfSome (known_in f x) (IsValue (type_at l.types x))
known_value l f x a h = by (known_in f x) refl
  where
    by : (o : Option Known) → known_in f x ≡ o → IfSome o (IsValue (type_at l.types x))
    by None e = tt
    by (Some k) e = changes_stay.known l f x k a h e

pub variable_value : (l : Layout) (f : Option Facts) (x : ℕ) → AreFactsIf l f → x < length l.types → IfSome (known_in f x) (IsValue (type_at l.types x))
variable_value = known_value

pub tree_stays : (l : Layout) (f : Option Facts) (e : TreeOf ℕ) → AreFactsIf l f → IsTyped (kinds_of l) e → IfSome (tree_known (known_in f) e) (IsValue (type_of (kinds_of l) e))
tree_stays l f (constant_tree t n) a h = exactly_value t n h
tree_stays l f (variable x) a h =
    subst (λ (t : IntType). IfSome (known_in f x) (IsValue t)) (sym (kinds_type l x)) (known_value l f x a (omega (arith, h.there, length-map l.types kind_of)))
tree_stays l f (converted_tree t e) a h =
    with_value (IsValue (type_of (kinds_of l) e)) (IsValue t) (tree_known (known_in f) e) (converted t) (tree_stays l f e a h) (λ k i. converted_value t (type_of (kinds_of l) e) k i)
tree_stays l f (unary op s t e) a h =
    with_value (IsValue (type_of (kinds_of l) e)) (IsValue (result_type op t)) (tree_known (known_in f) e) (λ k. operated op t k k) (tree_stays l f e a h.1)
    (λ k i. operated_value op t (type_of (kinds_of l) e) (type_of (kinds_of l) e) k k i i)
tree_stays l f (binary op s t d b) a h =
    with_value (IsValue (type_of (kinds_of l) d)) (IsValue (result_type op t)) (tree_known (known_in f) d) (λ j. known_with (tree_known (known_in f) b) (λ k. operated op t j k)) (tree_stays l f d a h.0)
    (λ j i. with_value (IsValue (type_of (kinds_of l) b)) (IsValue (result_type op t)) (tree_known (known_in f) b) (λ k. operated op t j k) (tree_stays l f b a h.1)
    (λ k n. operated_value op t (type_of (kinds_of l) d) (type_of (kinds_of l) b) j k i n))
