-- What becomes of a range in a type holds what becomes of its members.
use Rattle.std.specs.Prelude.{◌≡◌, ◌⊎◌, Bool, true, false, if◌then◌else◌, ℤ, ◌+ℤ◌, ◌-ℤ◌, ◌≤ℤ◌, int_le, Option, Some, None, Ok, Err}
use Rattle.std.specs.Int.{int_min, int_max}
use Rattle.std.proofs.Common.{arith, refl, ap, subst, inl, inr, ◌∙◌}
use Rattle.std.proofs.lemmas.Int.{ints, clamps}
use Rattle.pk_ctypes.specs.declared.types.IntType.{IntType}
use Rattle.pk_ctypes.specs.declared.faults.Fault.{Fault}
use Rattle.pk_ctypes.specs.Types.{low_of, high_of, is_signed_of, InType, is_in_type, wrapped}
use Rattle.pk_ctypes.specs.Operators.{fitted}
use Rattle.pk_ctypes.proofs.Wrapped.{wrapped_in, wrapped_same, wrapped_is}
use Rattle.pk_ctypes.proofs.Values.{fitted_in, fitted_inside, fitted_past, cases_of_type}
use Rattle.pk_interval.specs.declared.outcome.Outcome.{Outcome}
use Rattle.pk_interval.specs.declared.outcome.Outcome.TheVariants.{Empty, Within, TooLarge}
use Rattle.pk_interval.specs.Ranges.{Range, Holds, HeldBy, whole}
use Rattle.pk_interval.specs.Fitting.{clamped, moved, shifted, finished}
use Rattle.pk_interval.specs.Laws.{KnownBy, Converts}
use Rattle.pk_interval.proofs.Order.{held_from}

-- what takes the least number of a range into the type takes each other one there too, where it takes the greatest there
moves : (t : IntType) (r : Range) (z : ℤ) → Holds r z → (r.hi +ℤ (wrapped t r.lo -ℤ r.lo)) ≤ℤ high_of t → wrapped t z ≡ z +ℤ (wrapped t r.lo -ℤ r.lo)
moves t r z h k =
    let first = wrapped_in t r.lo in
    let multiple = wrapped_same t r.lo in
    let inside : InType t (z +ℤ (wrapped t r.lo -ℤ r.lo)) = record { from = omega (arith, ints, first.from, h.from); to = omega (arith, ints, h.to) } in
    wrapped_is t z (z +ℤ (wrapped t r.lo -ℤ r.lo)) inside (multiple.0, omega (arith, ints, multiple.1))

pub wraps : (t : IntType) (r : Range) (z : ℤ) → Holds r z → Holds (shifted t r).0 (wrapped t z)
wraps t r z h = by (int_le (r.hi +ℤ (wrapped t r.lo -ℤ r.lo)) (high_of t)) refl
  where
    by : (b : Bool) → int_le (r.hi +ℤ (wrapped t r.lo -ℤ r.lo)) (high_of t) ≡ b → (let p : Range × Option ℤ = (if b then (moved r (wrapped t r.lo -ℤ r.lo), Some (wrapped t r.lo -ℤ r.lo)) else (whole t, None)) in Holds p.0 (wrapped t z))
    by true e = let same = moves t r z h (omega (arith, ints, e)) in record { from = omega (arith, ints, same, h.from); to = omega (arith, ints, same, h.to) }
    by false e = let all = wrapped_in t z in record { from = all.from; to = all.to }

adds : (t : IntType) (r : Range) (z by : ℤ) → Holds r z → (shifted t r).1 ≡ Some by → wrapped t z ≡ z +ℤ by
adds t r z added h = go (int_le (r.hi +ℤ (wrapped t r.lo -ℤ r.lo)) (high_of t)) refl
  where
    go : (b : Bool) → int_le (r.hi +ℤ (wrapped t r.lo -ℤ r.lo)) (high_of t) ≡ b → (let p : Range × Option ℤ = (if b then (moved r (wrapped t r.lo -ℤ r.lo), Some (wrapped t r.lo -ℤ r.lo)) else (whole t, None)) in p.1 ≡ Some added) → wrapped t z ≡ z +ℤ added
    go true e f =
        let same : wrapped t r.lo -ℤ r.lo ≡ added = cc in
        moves t r z h (omega (arith, ints, e)) ∙ ap (λ v. z +ℤ v) same
    go false e f = absurd (cc)

pub clamps_members : (t : IntType) (r : Range) (z : ℤ) → Holds r z → InType t z → HeldBy (clamped t r) z
clamps_members t r z h k = held_from (int_max r.lo (low_of t)) (int_min r.hi (high_of t)) z (omega (arith, ints, clamps, h.from, k.from)) (omega (arith, ints, clamps, h.to, k.to))

pub converts : Converts
converts = record { holds = wraps; adds = adds; clamps = clamps_members }

-- a fitted number is the number itself in a signed type, and its conversion in an unsigned one
pub fitted_signed : (fault : Fault) (t : IntType) (u w : ℤ) → is_signed_of t ≡ true → fitted fault t u ≡ Ok w → InType t u × (u ≡ w)
fitted_signed fault t u w s e = by (cases_of_type t u)
  where
    by : InType t u ⊎ ((is_in_type t u ≡ false) × (InType t u → ⊥)) → InType t u × (u ≡ w)
    by (inl h) = let same : u ≡ w = cc (fitted_inside fault t u h) in (h, same)
    by (inr o) = absurd (cc (fitted_past fault t u s o.1))

pub fitted_unsigned : (fault : Fault) (t : IntType) (u w : ℤ) → is_signed_of t ≡ false → fitted fault t u ≡ Ok w → wrapped t u ≡ w
fitted_unsigned fault t u w s e = cc (ap (λ b. if b then (if is_in_type t u then Ok u else Err fault) else Ok (wrapped t u)) s)

within_sound : (fault : Fault) (t : IntType) (r : Range) (u w : ℤ) → Holds r u → fitted fault t u ≡ Ok w → (s : Bool) → is_signed_of t ≡ s → HeldBy (if s then clamped t r else Some (shifted t r).0) w
within_sound fault t r u w h e true s =
    let is = fitted_signed fault t u w s e in
    subst (HeldBy (clamped t r)) is.1 (clamps_members t r u h is.0)
within_sound fault t r u w h e false s = subst (Holds (shifted t r).0) (fitted_unsigned fault t u w s e) (wraps t r u h)

pub finished_sound : (fault : Fault) (t : IntType) (o : Outcome) (u w : ℤ) → KnownBy o u → fitted fault t u ≡ Ok w → HeldBy (finished t o) w
finished_sound fault t Empty u w k e = absurd k
finished_sound fault t (Within r) u w k e = within_sound fault t r u w k e (is_signed_of t) refl
finished_sound fault t TooLarge u w k e = let inside = fitted_in fault t u w e in record { from = inside.from; to = inside.to }
