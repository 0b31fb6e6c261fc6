-- What the code's 128 bits hold.
use Rattle.std.specs.Prelude.{◌≡◌, ℕ, suc, zero, ◌*◌, ◌/◌, ◌%◌, ◌^◌, ◌<◌, ◌&&◌, Bool, true, false, not, if◌then◌else◌, ℤ, pos, negsuc, ◌+ℤ◌, ◌-ℤ◌, ◌*ℤ◌, ◌≤ℤ◌, ◌<ℤ◌, int_le, int_div, unsigned_abs, FitsSigned, Option, Some, None}
use Rattle.std.specs.Option.{SomeIff}
use Rattle.std.specs.Int.{w128, int_rem_euclid}
use native.Mathlib.Nat.{div-le_self}
use Rattle.pk_ctypes.specs.declared.types.IntType.{IntType}
use Rattle.pk_ctypes.specs.Types.{InType, is_signed_of}
use Rattle.pk_ctypes.specs.Operators.{is_count}
use Rattle.pk_ctypes.proofs.Whole.{rest_split, rest_from, rest_below, sum_times, same_multiple}
use Rattle.pk_ctypes.proofs.Wrapped.{zero_in, one_most}
use Rattle.pk_ctypes.proofs.Shifts.{left_back}
use Rattle.std.specs.Ordering.{int_eq}
use Rattle.std.proofs.Common.{arith, ◌∙◌, ap, refl, sym, to_z, of_z}
use Rattle.std.proofs.lemmas.Int.{ints, fits_signed_from_abs}
use Rattle.pk_ctypes.proofs.Values.{zero_test, not_zero_test}
use Rattle.pk_congr.specs.Classes.{Class, int_gcd, divides, is_held, every, class_of, class_if, held_number, next_up_of, next_down_of}
use Rattle.pk_congr.specs.Operators.{class_if_some, product_of, class_of_products, class_of_both, class_product, is_divided, class_quotient, class_doubled}
use Rattle.pk_congr.proofs.Multiples.{Multiple, negative_multiple}
use Rattle.pk_ctypes.proofs.Small.{and_true}
use Rattle.pk_congr.proofs.Numbers.{test_held, euclid_differs}

pub same_class : (m m' r r' : ℤ) → m ≡ m' → r ≡ r' → class_if m r ≡ class_if m' r'
same_class m m' r r' e f = ap (λ v. class_if v r) e ∙ ap (class_if m') f

pub fits_held : (z : ℤ) → is_held z ≡ true → FitsSigned w128 z
fits_held z e = fits_signed_from_abs w128 z (test_held z e)

pub and_false : (a b : Bool) → b ≡ false → (a && b) ≡ false
and_false true b e = e
and_false false b e = refl

pub false_and : (a b : Bool) → a ≡ false → (a && b) ≡ false
false_and false b e = refl
false_and true b e = absurd (cc)

pub some_class : (m z : ℤ) (o : Option ℤ) → SomeIff o (FitsSigned w128 z) z → class_if_some m o ≡ class_if m z
some_class m z (Some v) k = ap (class_if m) k.1
some_class m z None k = by (is_held z) refl
  where
    by : (b : Bool) → is_held z ≡ b → every ≡ class_if m z
    by true e = absurd (k (fits_held z e))
    by false e = sym (ap (λ b. if b then class_of m z else every) (and_false (is_held m) (is_held z) e))

-- all four products, or one that is missing
pub products_are : (a b : Class) → class_of_products (product_of a.m b.m) (product_of a.m b.r) (product_of b.m a.r) (product_of a.r b.r) ≡ class_product a b
products_are a b = by (is_held (a.m *ℤ b.m)) (is_held (a.m *ℤ b.r)) (is_held (b.m *ℤ a.r)) (is_held (a.r *ℤ b.r))
  where
    by : (p q s r : Bool) → class_of_products (if p then Some (a.m *ℤ b.m) else None) (if q then Some (a.m *ℤ b.r) else None) (if s then Some (b.m *ℤ a.r) else None) (if r then Some (a.r *ℤ b.r) else None)
        ≡ (if p && q && s && r then class_if (int_gcd (int_gcd (a.m *ℤ b.m) (a.m *ℤ b.r)) (b.m *ℤ a.r)) (a.r *ℤ b.r) else every)
    by true true true true = refl
    by true true true false = refl
    by true true false true = refl
    by true true false false = refl
    by true false true true = refl
    by true false true false = refl
    by true false false true = refl
    by true false false false = refl
    by false true true true = refl
    by false true true false = refl
    by false true false true = refl
    by false true false false = refl
    by false false true true = refl
    by false false true false = refl
    by false false false true = refl
    by false false false false = refl

pub same_products : (x y x' y' : ℤ) (o : Option ℤ) → o ≡ product_of x y → x ≡ x' → y ≡ y' → o ≡ product_of x' y'
same_products x y x' y' o e f g = e ∙ ap (λ v. product_of v y) f ∙ ap (product_of x') g

pub both_are : (m r : ℤ) → pos 0 ≤ℤ m → class_of_both (if is_held m then Some m else None) (if is_held r then Some r else None) ≡ class_if m r
both_are m r h = by (is_held m) (is_held r) refl refl
  where
    whole : pos (unsigned_abs m) ≡ m
    whole = omega (arith, ints)

    by : (p q : Bool) → is_held m ≡ p → is_held r ≡ q → class_of_both (if p then Some m else None) (if q then Some r else None) ≡ (if p && q then class_of m r else every)
    by true true e f = ap (λ v. class_if v r) whole ∙ ap (λ b. if b then class_of m r else every) (and_true (is_held m) (is_held r) e f)
    by true false e f = refl
    by false true e f = refl
    by false false e f = refl

pub not_divided : (a b : Class) → (b.m ≡ pos 0 → ⊥) → is_divided a b ≡ false
not_divided a b h =
    let test = not_zero_test b.m h in
    false_and _ (divides b.r a.r) (false_and _ (divides b.r a.m) (false_and _ (not (int_eq b.r (pos 0))) test))

pub not_divided_zero : (a b : Class) → b.r ≡ pos 0 → is_divided a b ≡ false
not_divided_zero a b h =
    let test = zero_test b.r h in
    false_and _ (divides b.r a.r) (false_and _ (divides b.r a.m) (and_false (int_eq b.m (pos 0)) _ (ap not test)))

pub is_divided_by : (a b : Class) → b.m ≡ pos 0 → (b.r ≡ pos 0 → ⊥) → is_divided a b ≡ (divides b.r a.m && divides b.r a.r)
is_divided_by a b h k =
    let first = zero_test b.m h in
    let second = not_zero_test b.r k in
    let both = and_true (int_eq b.m (pos 0)) (not (int_eq b.r (pos 0))) first (ap not second) in
    ap (λ v. v && divides b.r a.m && divides b.r a.r) both

pub some_class_is : (m m' z z' : ℤ) (o : Option ℤ) → SomeIff o (FitsSigned w128 z) z → m ≡ m' → z ≡ z' → class_if_some m o ≡ class_if m' z'
some_class_is m m' z z' o k e f = some_class m z o k ∙ same_class m m' z z' e f

pub products_same : (a b : Class) (p q s r : Option ℤ) → p ≡ product_of a.m b.m → q ≡ product_of a.m b.r → s ≡ product_of b.m a.r → r ≡ product_of a.r b.r → class_of_products p q s r ≡ class_product a b
products_same a b p q s r e f g h =
    ap (λ v. class_of_products v q s r) e ∙ ap (λ v. class_of_products (product_of a.m b.m) v s r) f
    ∙ ap (λ v. class_of_products (product_of a.m b.m) (product_of a.m b.r) v r) g
    ∙ ap (λ v. class_of_products (product_of a.m b.m) (product_of a.m b.r) (product_of b.m a.r) v) h ∙ products_are a b

-- a shift's power of two
pub one_in : (t : IntType) → InType t (pos 1)
one_in t = let zero = zero_in t in record { from = omega (arith, ints, zero.0); to = one_most t }

pub power_is : (t : IntType) (b : ℤ) → is_count t b ≡ true → to_z w128 ((1 * 2 ^ of_z w128 b) % 2 ^ 128) ≡ pos (2 ^ unsigned_abs b)
power_is t b h = left_back t (pos 1) b (one_in t) h (by (is_signed_of t)) ∙ omega (arith, ints)
  where
    by : (s : Bool) → (s && false) ≡ false
    by true = refl
    by false = refl

pub doubled_same : (t : IntType) (a b : Class) (m r : Option ℤ) → pos 0 ≤ℤ a.m → b.m ≡ pos 0 → is_count t b.r ≡ true → m ≡ product_of a.m (pos (2 ^ unsigned_abs b.r)) → r ≡ product_of a.r (pos (2 ^ unsigned_abs b.r)) → class_of_both m r ≡ class_doubled t a b
doubled_same t a b m r l e f g h =
    let p = pos (2 ^ unsigned_abs b.r) in
    let positive : pos 0 ≤ℤ (a.m *ℤ p) = from a.m (2 ^ unsigned_abs b.r) l in
    let counted = and_true (int_eq b.m (pos 0)) (is_count t b.r) (zero_test b.m e) f in
    ap (λ v. class_of_both v r) g ∙ ap (λ v. class_of_both (product_of a.m p) v) h ∙ both_are (a.m *ℤ p) (a.r *ℤ p) positive
    ∙ sym (ap (λ w. if w then class_if (a.m *ℤ p) (a.r *ℤ p) else every) counted)
  where
    from : (z : ℤ) (n : ℕ) → pos 0 ≤ℤ z → pos 0 ≤ℤ (z *ℤ pos n)
    from (pos z) n l = omega (arith, ints)
    from (negsuc z) n l = absurd (omega (arith, ints))

-- quotients
pub quotient_fits : (a b : ℤ) → unsigned_abs a < 2 ^ 127 → FitsSigned w128 (int_div a b)
quotient_fits (pos a) (pos b) h = let small = div-le_self a b in omega (arith, ints)
quotient_fits (pos a) (negsuc b) h = let small = div-le_self a (suc b) in omega (arith, ints)
quotient_fits (negsuc a) (pos b) h = let small = div-le_self (suc a) b in omega (arith, ints)
quotient_fits (negsuc a) (negsuc b) h = let small = div-le_self (suc a) (suc b) in omega (arith, ints)

pub quotient_same : (a b : Class) (m d : ℕ) → is_divided a b ≡ true → (m ≡ unsigned_abs a.m) → (d ≡ unsigned_abs b.r) → (z : ℤ) → z ≡ int_div a.r b.r → class_if (pos (m / d)) z ≡ class_quotient a b
quotient_same a b m d h e f z g =
    ap (λ v. class_if (pos (v / d)) z) e ∙ ap (λ v. class_if (pos (unsigned_abs a.m / v)) z) f ∙ ap (class_if (pos (unsigned_abs a.m / unsigned_abs b.r))) g
    ∙ sym (ap (λ w. if w then class_if (pos (unsigned_abs a.m / unsigned_abs b.r)) (int_div a.r b.r) else every) h)

-- the next member
pub same_rest : (z z' m : ℤ) → pos 0 <ℤ m → Multiple m (z -ℤ z') → int_rem_euclid z m ≡ int_rem_euclid z' m
same_rest z z' (pos zero) h k = absurd (omega (arith, ints))
same_rest z z' (negsuc n) h k = absurd (omega (arith, ints))
same_rest z z' (pos (suc n)) h k =
    let s = rest_split z (suc n) (omega arith) in
    let s' = rest_split z' (suc n) (omega arith) in
    let from = rest_from z (suc n) (omega arith) in
    let from' = rest_from z' (suc n) (omega arith) in
    let below = rest_below z (suc n) (omega arith) in
    let below' = rest_below z' (suc n) (omega arith) in
    let sums = sum_times s'.0 k.0 (pos (suc n)) in
    let one : s.0 ≡ s'.0 +ℤ k.0 = same_multiple s.0 (s'.0 +ℤ k.0) (suc n) (omega (arith, ints, s.1, s'.1, k.1)) (omega (arith, ints, s.1, s'.1, k.1)) in
    let products = ap (λ v. v *ℤ pos (suc n)) one in
    omega (arith, ints, s.1, s'.1, k.1)

pub held_same : (z : ℤ) (o : Option ℤ) → SomeIff o (FitsSigned w128 z) z → held_number o ≡ held_number (Some z)
held_same z (Some v) k = ap (λ v. held_number (Some v)) k.1
held_same z None k = by (is_held z) refl
  where
    by : (b : Bool) → is_held z ≡ b → None ≡ (if b then Some z else None)
    by true e = absurd (k (fits_held z e))
    by false e = refl

pub above_is : (r x m : ℤ) → pos 0 <ℤ m → int_rem_euclid (r -ℤ int_rem_euclid x m) m ≡ int_rem_euclid (r -ℤ x) m
above_is r x m h =
    let d = euclid_differs m x (λ e. absurd (omega (arith, ints))) in
    same_rest (r -ℤ int_rem_euclid x m) (r -ℤ x) m h (d.0, omega (arith, ints, d.1))

pub below_is : (r x m : ℤ) → pos 0 <ℤ m → int_rem_euclid (int_rem_euclid x m -ℤ r) m ≡ int_rem_euclid (x -ℤ r) m
below_is r x m h =
    let d = negative_multiple m (x -ℤ int_rem_euclid x m) (euclid_differs m x (λ e. absurd (omega (arith, ints)))) in
    same_rest (int_rem_euclid x m -ℤ r) (x -ℤ r) m h (d.0, omega (arith, ints, d.1))

pub up_same : (c : Class) (x w z : ℤ) (o : Option ℤ) → pos 0 <ℤ c.m → SomeIff o (FitsSigned w128 z) z → z ≡ x +ℤ w → w ≡ int_rem_euclid (c.r -ℤ int_rem_euclid x c.m) c.m → held_number o ≡ held_number (next_up_of c x)
up_same c x w z o h k e f =
    let test = not_zero_test c.m (λ g. absurd (omega (arith, ints))) in
    held_same z o k ∙ ap (λ v. held_number (Some v)) (e ∙ ap (λ v. x +ℤ v) (f ∙ above_is c.r x c.m h))
    ∙ sym (ap (λ b. held_number (if b then (if int_le x c.r then Some c.r else None) else Some (x +ℤ int_rem_euclid (c.r -ℤ x) c.m))) test)

pub down_same : (c : Class) (x w z : ℤ) (o : Option ℤ) → pos 0 <ℤ c.m → SomeIff o (FitsSigned w128 z) z → z ≡ x -ℤ w → w ≡ int_rem_euclid (int_rem_euclid x c.m -ℤ c.r) c.m → held_number o ≡ held_number (next_down_of c x)
down_same c x w z o h k e f =
    let test = not_zero_test c.m (λ g. absurd (omega (arith, ints))) in
    held_same z o k ∙ ap (λ v. held_number (Some v)) (e ∙ ap (λ v. x -ℤ v) (f ∙ below_is c.r x c.m h))
    ∙ sym (ap (λ b. held_number (if b then (if int_le c.r x then Some c.r else None) else Some (x -ℤ int_rem_euclid (x -ℤ c.r) c.m))) test)
