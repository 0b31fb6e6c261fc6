-- What changes nothing, and what stays in a type.
use Rattle.std.specs.Prelude.{◌≡◌, Bool, true, false, if◌then◌else◌, ℤ, ◌≤ℤ◌, int_le, int_lt, List, Option, Some, None, IfSome}
use Rattle.std.specs.Ordering.{int_eq}
use Rattle.std.specs.Int.{int_min, int_max}
use Rattle.std.proofs.Common.{arith, refl, subst}
use Rattle.std.proofs.lemmas.Int.{ints, clamps}
use Rattle.pk_ctypes.specs.declared.types.IntType.{IntType}
use Rattle.pk_ctypes.specs.Types.{low_of, high_of, is_signed_of, InType}
use Rattle.pk_ctypes.proofs.Wrapped.{zero_in}
use Rattle.pk_interval.specs.declared.outcome.Outcome.TheVariants.{Empty, Within, TooLarge}
use Rattle.pk_interval.specs.Ranges.{Range, IsIn, LiesIn, range_from, joined, met, is_within, whole}
use Rattle.pk_interval.specs.Fitting.{clamped, shifted, unmoved}
use Rattle.pk_interval.specs.Widening.{next_up, next_down, widened, narrowed, narrowed_if}
use Rattle.pk_interval.specs.Laws.{FinishIsFinished, found_range, NothingChanges, StaysInType}
use Rattle.pk_interval.proofs.Numbers.{same_range}
use Rattle.pk_interval.proofs.NextThresholds.{up_in, down_in}
use Rattle.pk_interval.proofs.Ends.{within}
use Rattle.pk_interval.proofs.Order.{ends_within, within_ends, met_left, lies_in_type}
use Rattle.pk_interval.proofs.Wrappable.{right_in}

-- ---- finishing

unmoved_range : (o : Option Range) → found_range (unmoved o) ≡ o
unmoved_range None = refl
unmoved_range (Some r) = refl

pub finishes : FinishIsFinished
finishes t Empty = refl
finishes t (Within r) = by (is_signed_of t)
  where
    by : (s : Bool) → found_range (if s then unmoved (clamped t r) else Some (shifted t r)) ≡ (if s then clamped t r else Some (shifted t r).0)
    by true = unmoved_range (clamped t r)
    by false = refl
finishes t TooLarge = refl

-- ---- what changes nothing

joins_same : (a b : Range) → is_within b a ≡ true → joined a b ≡ a
joins_same a b e =
    let ends = ends_within b a e in
    same_range (int_min a.lo b.lo) (int_max a.hi b.hi) a.lo a.hi (omega (arith, ints, clamps, ends.0)) (omega (arith, ints, clamps, ends.1))

widens_same : (t : IntType) (cs : List ℤ) (h n : Range) → is_within n h ≡ true → widened t cs h n ≡ h
widens_same t cs h n e =
    let ends = ends_within n h e in
    same_range _ _ h.lo h.hi (low ends.0 (int_lt n.lo h.lo) refl) (high ends.1 (int_lt h.hi n.hi) refl)
  where
    low : h.lo ≤ℤ n.lo → (b : Bool) → int_lt n.lo h.lo ≡ b → (if b then next_down t cs n.lo else h.lo) ≡ h.lo
    low l true f = absurd (omega (arith, ints, l, f))
    low l false f = refl

    high : n.hi ≤ℤ h.hi → (b : Bool) → int_lt h.hi n.hi ≡ b → (if b then next_up t cs n.hi else h.hi) ≡ h.hi
    high l true f = absurd (omega (arith, ints, l, f))
    high l false f = refl

either_same : (b : Bool) (z : ℤ) → (if b then z else z) ≡ z
either_same true z = refl
either_same false z = refl

narrows_same : (t : IntType) (h : Range) → narrowed t h h ≡ h
narrows_same t h =
    rw (either_same (int_eq h.lo (low_of t)) h.lo) (rw (either_same (int_eq h.hi (high_of t)) h.hi) (by (int_le h.lo h.hi)))
  where
    by : (b : Bool) → narrowed_if (if b then Some h else None) h ≡ h
    by true = refl
    by false = refl

pub unchanged : NothingChanges
unchanged = record { joins = joins_same; widenings = widens_same; narrowings = narrows_same }

-- ---- what stays in a type

joined_in : (t : IntType) (a b : Range) → IsIn t a → IsIn t b → IsIn t (joined a b)
joined_in t a b h k = record {
  from = record { from = omega (arith, ints, clamps, h.from.from, k.from.from); to = omega (arith, ints, clamps, h.from.to, k.from.to) };
  to = record { from = omega (arith, ints, clamps, h.to.from, k.to.from); to = omega (arith, ints, clamps, h.to.to, k.to.to) };
}

met_in : (t : IntType) (a b r : Range) → IsIn t a → met a b ≡ Some r → IsIn t r
met_in t a b r h e = let l : LiesIn a r = subst (λ o. IfSome o (LiesIn a)) e (met_left a b) in lies_in_type t a r h l

widened_in : (t : IntType) (cs : List ℤ) (h n : Range) → IsIn t h → IsIn t n → IsIn t (widened t cs h n)
widened_in t cs h n i j = record { from = low (int_lt n.lo h.lo); to = high (int_lt h.hi n.hi) }
  where
    low : (b : Bool) → InType t (if b then next_down t cs n.lo else h.lo)
    low true = (down_in t cs n.lo j.from).0
    low false = i.from

    high : (b : Bool) → InType t (if b then next_up t cs n.hi else h.hi)
    high true = (up_in t cs n.hi j.to).0
    high false = i.to

narrowed_in : (t : IntType) (h n : Range) → IsIn t h → IsIn t n → IsIn t (narrowed t h n)
narrowed_in t h n i j = by (int_eq h.lo (low_of t)) (int_eq h.hi (high_of t))
  where
    found : (lo hi : ℤ) → InType t lo → InType t hi → IsIn t (narrowed_if (range_from lo hi) h)
    found lo hi p q = one (int_le lo hi)
      where
        one : (b : Bool) → IsIn t (narrowed_if (if b then Some (record { lo = lo; hi = hi }) else None) h)
        one true = record { from = p; to = q }
        one false = i

    by : (a b : Bool) → IsIn t (narrowed_if (range_from (if a then n.lo else h.lo) (if b then n.hi else h.hi)) h)
    by true true = found n.lo n.hi j.from j.to
    by true false = found n.lo h.hi j.from i.to
    by false true = found h.lo n.hi i.from j.to
    by false false = found h.lo h.hi i.from i.to

whole_in : (t : IntType) → IsIn t (whole t)
whole_in t =
    let all = zero_in t in
    record {
      from = record { from = omega (arith, ints); to = omega (arith, ints, all.0, all.1) };
      to = record { from = omega (arith, ints, all.0, all.1); to = omega (arith, ints) };
    }

pub stays : StaysInType
stays = record {
  joins = joined_in;
  meets = met_in;
  widenings = widened_in;
  narrowings = narrowed_in;
  above_held = λ t cs h n i j. let e = within t cs h n i j in within_ends h (widened t cs h n) e.0 e.2;
  above_next = λ t cs h n i j. let e = within t cs h n i j in within_ends n (widened t cs h n) e.1 e.3;
  whole_in = whole_in;
  right_operands = right_in;
}
