-- The tests for a number of a type, and what fits as it is.
use Rattle.std.specs.Ordering.{int_eq}
use Rattle.std.specs.Prelude.{Result, suc, negsuc, if◌then◌else◌, ◌≡◌, true, false, ◌⊎◌, ℤ, pos, ◌≤ℤ◌, ◌<ℤ◌, int_le, Ok, Err}
use Rattle.std.specs.Prelude.{Bool, FitsSigned, int_div, int_rem, unsigned_abs}
use Rattle.std.specs.Int.{w128}
use Rattle.std.specs.Cmp.{unsigned_Decides}
use Rattle.std.proofs.Common.{ap, arith, sym, ◌∙◌, refl, inl, inr, subst, eqb, of_z, to_z}
use Rattle.std.proofs.lemmas.Int.{ints, by_lt_z, to_z-of_z}
use Rattle.std.proofs.lemmas.Bool.Decides.{Decides-int_eq}
use native.Mathlib.Nat.{mod-le}
use Rattle.pk_ctypes.specs.declared.types.Op.TheVariants.{Div, Rem}
use Rattle.pk_ctypes.specs.declared.faults.Fault.TheVariants.{DivZero, Overflow}
use Rattle.pk_ctypes.specs.declared.types.IntType.{IntType}
use Rattle.pk_ctypes.specs.declared.faults.Fault.{Fault}
use Rattle.pk_ctypes.specs.Types.{is_signed_of, low_of, high_of, InType, is_in_type, wrapped}
use Rattle.pk_ctypes.specs.Operators.{truth, fitted, fitted_if, divided, value_of}
use Rattle.pk_ctypes.proofs.Wrapped.{wrapped_is, wrapped_in, zero_in, one_most}

pub le_test : (a b : ℤ) → a ≤ℤ b → int_le a b ≡ true
le_test a b h = grind (arith, ints)

pub not_le_test : (a b : ℤ) → b <ℤ a → int_le a b ≡ false
not_le_test a b h = grind (arith, ints)

pub test_le : (a b : ℤ) → int_le a b ≡ true → a ≤ℤ b
test_le a b h = grind (arith, ints)

pub in_type_test : (t : IntType) (z : ℤ) → InType t z → is_in_type t z ≡ true
in_type_test t z h =
    let low = le_test (low_of t) z h.from in
    let high = le_test z (high_of t) h.to in
    rw low high

pub below_test : (t : IntType) (z : ℤ) → z <ℤ low_of t → is_in_type t z ≡ false
below_test t z h = let low = not_le_test (low_of t) z h in rw low refl

pub cases_of_type : (t : IntType) (z : ℤ) → InType t z ⊎ ((is_in_type t z ≡ false) × (InType t z → ⊥))
cases_of_type t z =
    by_lt_z z (low_of t)
    (λ l. inr (below_test t z l, λ h. absurd (omega (arith, ints, h.from))))
    (λ l. by_lt_z (high_of t) z
    (λ k. inr (above k, λ h. absurd (omega (arith, ints, h.to))))
    (λ k. inl (record { from = l; to = k })))
  where
    above : high_of t <ℤ z → is_in_type t z ≡ false
    above k = let high = not_le_test z (high_of t) k in grind (arith, high)

-- a number of the type is its own conversion
pub wrapped_inside : (t : IntType) (z : ℤ) → InType t z → wrapped t z ≡ z
wrapped_inside t z h = wrapped_is t z z h (pos 0, omega (arith, ints))

pub fitted_inside : (fault : Fault) (t : IntType) (z : ℤ) → InType t z → fitted fault t z ≡ Ok z
fitted_inside fault t z h =
    let test = in_type_test t z h in
    let same = wrapped_inside t z h in
    elim (is_signed_of t) as (λ s. (if s then (if is_in_type t z then Ok z else Err fault) else Ok (wrapped t z)) ≡ Ok z) [
      | true ↦ rw test refl
      | false ↦ ap Ok same
    ]

pub zero_test : (b : ℤ) → b ≡ pos 0 → int_eq b (pos 0) ≡ true
zero_test b h = grind (arith, ints)

pub not_zero_test : (b : ℤ) → (b ≡ pos 0 → ⊥) → int_eq b (pos 0) ≡ false
not_zero_test b h = grind (arith, ints)

pub divided_by : (b : ℤ) (r : Result ℤ Fault) → (b ≡ pos 0 → ⊥) → divided b r ≡ r
divided_by b r h = let test = not_zero_test b h in rw test refl

pub same_test : (b c : Bool) → (b ≡ true → c ≡ true) → (c ≡ true → b ≡ true) → b ≡ c
same_test true true f g = refl
same_test true false f g = sym (f refl)
same_test false true f g = g refl
same_test false false f g = refl

-- equal bits are equal numbers
pub eqb-of_z : (a b : ℤ) → FitsSigned w128 a → FitsSigned w128 b → eqb (of_z w128 a) (of_z w128 b) ≡ int_eq a b
eqb-of_z a b f g =
    let bits = unsigned_Decides (of_z w128 a) (of_z w128 b) in
    let numbers = Decides-int_eq a b in
    same_test (eqb (of_z w128 a) (of_z w128 b)) (int_eq a b)
    (λ e. numbers.1 (sym (to_z-of_z w128 a f) ∙ ap (to_z w128) (bits.0 e) ∙ to_z-of_z w128 b g))
    (λ e. bits.1 (ap (of_z w128) (numbers.0 e)))

-- a rest lies between its dividend and 0
pub rest_in : (t : IntType) (a b : ℤ) → InType t a → InType t (int_rem a b)
rest_in t (pos a) b h =
    let zero = zero_in t in
    let small = mod-le a (unsigned_abs b) in
    record { from = omega (arith, ints, zero.0); to = omega (arith, ints, h.to) }
rest_in t (negsuc a) b h =
    let zero = zero_in t in
    let small = mod-le (suc a) (unsigned_abs b) in
    record { from = omega (arith, ints, h.from); to = omega (arith, ints, zero.1) }

pub rest_value : (t : IntType) (a b : ℤ) → InType t a → (b ≡ pos 0 → ⊥) → is_in_type t (int_div a b) ≡ true → value_of Rem t a b ≡ Ok (int_rem a b)
rest_value t a b h n test =
    let divisor = not_zero_test b n in
    let fits = fitted_inside Overflow t (int_rem a b) (rest_in t a b h) in
    rw (divisor, test) fits

pub rest_past : (t : IntType) (a b : ℤ) → (b ≡ pos 0 → ⊥) → is_in_type t (int_div a b) ≡ false → value_of Rem t a b ≡ Err Overflow
rest_past t a b n test = let divisor = not_zero_test b n in rw (divisor, test) refl

-- ---- what a fitted number and a fault tell

pub fitted_in : (fault : Fault) (t : IntType) (x z : ℤ) → fitted fault t x ≡ Ok z → InType t z
fitted_in fault t x z e = signed (is_signed_of t) refl
  where
    inside : InType t x ⊎ ((is_in_type t x ≡ false) × (InType t x → ⊥)) → is_signed_of t ≡ true → InType t z
    inside (inl h) s = let same : x ≡ z = cc (fitted_inside fault t x h) in subst (InType t) same h
    inside (inr out) s = absurd (cc (ap (λ b. if b then (if is_in_type t x then Ok x else Err fault) else Ok (wrapped t x)) s, ap (λ b. if b then Ok x else Err fault) out.0))

    signed : (s : Bool) → is_signed_of t ≡ s → InType t z
    signed true s = inside (cases_of_type t x) s
    signed false s = let same : wrapped t x ≡ z = cc (ap (λ b. if b then (if is_in_type t x then Ok x else Err fault) else Ok (wrapped t x)) s) in subst (InType t) same (wrapped_in t x)

pub fitted_if_in : (fault : Fault) (t : IntType) (r : Result ℤ Fault) (z : ℤ) → fitted_if fault t r ≡ Ok z → InType t z
fitted_if_in fault t (Ok x) z e = fitted_in fault t x z e
fitted_if_in fault t (Err f) z e = absurd (cc)

pub fitted_past : (fault : Fault) (t : IntType) (x : ℤ) → is_signed_of t ≡ true → (InType t x → ⊥) → fitted fault t x ≡ Err fault
fitted_past fault t x s out = inside (cases_of_type t x)
  where
    inside : InType t x ⊎ ((is_in_type t x ≡ false) × (InType t x → ⊥)) → fitted fault t x ≡ Err fault
    inside (inl h) = absurd (out h)
    inside (inr o) = rw (o.0, s) refl

-- a number that doesn't fit
pub record IsPast (fault : Fault) (t : IntType) (x : ℤ) (f : Fault) : Type 0 where
  pub signed : is_signed_of t ≡ true
  pub outside : InType t x → ⊥
  pub same : fault ≡ f

pub fitted_err : (fault : Fault) (t : IntType) (x : ℤ) (f : Fault) → fitted fault t x ≡ Err f → IsPast fault t x f
fitted_err fault t x f e = signed (is_signed_of t) refl
  where
    inside : InType t x ⊎ ((is_in_type t x ≡ false) × (InType t x → ⊥)) → is_signed_of t ≡ true → IsPast fault t x f
    inside (inl h) s = absurd (cc (fitted_inside fault t x h))
    inside (inr o) s = record { signed = s; outside = o.1; same = cc (fitted_past fault t x s o.1) }

    signed : (s : Bool) → is_signed_of t ≡ s → IsPast fault t x f
    signed true s = inside (cases_of_type t x) s
    signed false s = absurd (cc (ap (λ b. if b then (if is_in_type t x then Ok x else Err fault) else Ok (wrapped t x)) s))

pub no_fault : (fault : Fault) (t : IntType) (x : ℤ) (f : Fault) → InType t x → fitted fault t x ≡ Err f → ⊥
no_fault fault t x f h e = let past = fitted_err fault t x f e in past.outside h

pub truth_in : (t : IntType) (b : Bool) → InType t (truth b)
truth_in t true = let zero = zero_in t in let one = one_most t in record { from = omega (arith, ints, zero.0); to = one }
truth_in t false = let zero = zero_in t in record { from = zero.0; to = zero.1 }

pub by_zero : (t : IntType) (a b : ℤ) → b ≡ pos 0 → value_of Div t a b ≡ Err DivZero
by_zero t a b z = let test = zero_test b z in rw test refl

pub rest_by_zero : (t : IntType) (a b : ℤ) → b ≡ pos 0 → value_of Rem t a b ≡ Err DivZero
rest_by_zero t a b z = let test = zero_test b z in rw test refl

-- a quotient, before it is fitted
pub quotient_fitted : (t : IntType) (a b : ℤ) → (b ≡ pos 0 → ⊥) → value_of Div t a b ≡ fitted Overflow t (int_div a b)
quotient_fitted t a b n = let test = not_zero_test b n in rw test refl

pub quotient_value : (t : IntType) (a b : ℤ) → (b ≡ pos 0 → ⊥) → InType t (int_div a b) → value_of Div t a b ≡ Ok (int_div a b)
quotient_value t a b n h = quotient_fitted t a b n ∙ fitted_inside Overflow t (int_div a b) h
