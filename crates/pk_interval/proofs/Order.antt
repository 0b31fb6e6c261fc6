-- The order of ranges is inclusion.
use Rattle.std.specs.Prelude.{◌≡◌, ◌↔◌, ◌&&◌, Bool, true, false, if◌then◌else◌, ℤ, ◌≤ℤ◌, int_le, Some, None, IfSome}
use Rattle.std.specs.Int.{int_min, int_max}
use Rattle.std.proofs.Common.{arith, refl}
use Rattle.std.proofs.lemmas.Int.{ints, clamps}
use Rattle.pk_ctypes.specs.declared.types.IntType.{IntType}
use Rattle.pk_ctypes.proofs.Values.{le_test, test_le}
use Rattle.pk_interval.specs.Ranges.{Range, Holds, HeldBy, IsIn, LiesIn, range_from, joined, met, is_within}
use Rattle.pk_interval.specs.Laws.{Includes, IsLattice}

first_true : (a b : Bool) → (a && b) ≡ true → a ≡ true
first_true true b e = refl
first_true false b e = e

second_true : (a b : Bool) → (a && b) ≡ true → b ≡ true
second_true true b e = e
second_true false b e = absurd (cc)

-- ends of a range within another
pub ends_within : (a b : Range) → is_within a b ≡ true → (b.lo ≤ℤ a.lo) × (a.hi ≤ℤ b.hi)
ends_within a b e = (test_le b.lo a.lo (first_true (int_le b.lo a.lo) (int_le a.hi b.hi) e), test_le a.hi b.hi (second_true (int_le b.lo a.lo) (int_le a.hi b.hi) e))

pub within_ends : (a b : Range) → b.lo ≤ℤ a.lo → a.hi ≤ℤ b.hi → is_within a b ≡ true
within_ends a b h k = let first = le_test b.lo a.lo h in let second = le_test a.hi b.hi k in rw (first, second) refl

included : (a b : Range) → is_within a b ≡ true → Includes b a
included a b e z h = let ends = ends_within a b e in record { from = omega (arith, ints, ends.0, h.from); to = omega (arith, ints, ends.1, h.to) }

not_included : (a b : Range) → Holds a a.lo → Holds a a.hi → is_within a b ≡ false → Includes b a → ⊥
not_included a b h k e f =
    let low = f a.lo h in
    let high = f a.hi k in
    absurd (cc (within_ends a b low.from high.to))

-- a number between two ends lies in the range that they make
pub held_from : (l h z : ℤ) → l ≤ℤ z → z ≤ℤ h → HeldBy (range_from l h) z
held_from l h z p q = by (int_le l h) refl
  where
    by : (b : Bool) → int_le l h ≡ b → HeldBy (if b then Some (record { lo = l; hi = h }) else None) z
    by true e = record { from = p; to = q }
    by false e = absurd (omega (arith, ints))

pub from_held : (l h z : ℤ) → HeldBy (range_from l h) z → (l ≤ℤ z) × (z ≤ℤ h)
from_held l h z = by (int_le l h)
  where
    by : (b : Bool) → HeldBy (if b then Some (record { lo = l; hi = h }) else None) z → (l ≤ℤ z) × (z ≤ℤ h)
    by true k = (k.from, k.to)
    by false k = absurd k

met_is : (a b : Range) (z : ℤ) → HeldBy (met a b) z ↔ Holds a z × Holds b z
met_is a b z = (
  λ h. let ends = from_held (int_max a.lo b.lo) (int_min a.hi b.hi) z h in
      (record { from = omega (arith, ints, clamps, ends.0); to = omega (arith, ints, clamps, ends.1) }, record { from = omega (arith, ints, clamps, ends.0); to = omega (arith, ints, clamps, ends.1) }),
  λ h. held_from (int_max a.lo b.lo) (int_min a.hi b.hi) z (omega (arith, ints, clamps, h.0.from, h.1.from)) (omega (arith, ints, clamps, h.0.to, h.1.to)),
)

least : (a b c : Range) → is_within a c ≡ true → is_within b c ≡ true → is_within (joined a b) c ≡ true
least a b c e f =
    let first = ends_within a c e in
    let second = ends_within b c f in
    within_ends (joined a b) c (omega (arith, ints, clamps, first.0, second.0)) (omega (arith, ints, clamps, first.1, second.1))

-- what is found between ends within those of a range lies in it
lies_from : (a : Range) (l h : ℤ) → a.lo ≤ℤ l → h ≤ℤ a.hi → IfSome (range_from l h) (LiesIn a)
lies_from a l h p q = by (int_le l h) refl
  where
    by : (b : Bool) → int_le l h ≡ b → IfSome (if b then Some (record { lo = l; hi = h }) else None) (LiesIn a)
    by true e = record { from = p; some = omega (arith, ints, e); to = q }
    by false e = tt

pub met_left : (a b : Range) → IfSome (met a b) (LiesIn a)
met_left a b = lies_from a (int_max a.lo b.lo) (int_min a.hi b.hi) (omega (arith, ints, clamps)) (omega (arith, ints, clamps))

pub met_right : (a b : Range) → IfSome (met a b) (LiesIn b)
met_right a b = lies_from b (int_max a.lo b.lo) (int_min a.hi b.hi) (omega (arith, ints, clamps)) (omega (arith, ints, clamps))

-- what lies in a range of a type is a range of the type
pub lies_in_type : (t : IntType) (a r : Range) → IsIn t a → LiesIn a r → IsIn t r
lies_in_type t a r i h = record {
  from = record { from = omega (arith, ints, i.from.from, h.from); to = omega (arith, ints, i.to.to, h.some, h.to) };
  to = record { from = omega (arith, ints, i.from.from, h.from, h.some); to = omega (arith, ints, i.to.to, h.to) };
}

pub lattice : IsLattice
lattice = record {
  included = included;
  not_included = not_included;
  upper = λ a b z h. record { from = omega (arith, ints, clamps, h.from); to = omega (arith, ints, clamps, h.to) };
  upper_too = λ a b z h. record { from = omega (arith, ints, clamps, h.from); to = omega (arith, ints, clamps, h.to) };
  least = least;
  met_is = met_is;
}
