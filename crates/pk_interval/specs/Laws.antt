-- The order of ranges, and what it means that the operations on them are sound.
use Rattle.std.specs.Prelude.{◌≡◌, ◌↔◌, true, false, ℤ, ◌+ℤ◌, List, Option, Some, None, Ok}
use Rattle.pk_ctypes.specs.declared.types.IntType.{IntType}
use Rattle.pk_ctypes.specs.declared.types.Op.{Op}
use Rattle.pk_ctypes.specs.Types.{InType, wrapped}
use Rattle.pk_ctypes.specs.Operators.{exact, value_of}
use Rattle.pk_interval.specs.declared.outcome.Outcome.{Outcome}
use Rattle.pk_interval.specs.declared.outcome.Outcome.TheVariants.{Empty, Within, TooLarge}
use Rattle.pk_interval.specs.Ranges.{Range, Holds, HeldBy, IsIn, joined, met, is_within, whole}
use Rattle.pk_interval.specs.Operators.{range_of, HasRightIn}
use Rattle.pk_interval.specs.Fitting.{clamped, shifted, finished, finish_of}
use Rattle.pk_interval.specs.Widening.{widened, narrowed}

-- each number of a is one of b
abbrev pub Includes : Range → Range → Type 0
Includes b a = (z : ℤ) → Holds a z → Holds b z

-- The order is inclusion, where the left has a number; join is the least upper bound, and meet the intersection.
pub record IsLattice : Type 0 where
  pub included : (a b : Range) → is_within a b ≡ true → Includes b a
  pub not_included : (a b : Range) → Holds a a.lo → Holds a a.hi → is_within a b ≡ false → Includes b a → ⊥
  pub upper : (a b : Range) (z : ℤ) → Holds a z → Holds (joined a b) z
  pub upper_too : (a b : Range) (z : ℤ) → Holds b z → Holds (joined a b) z
  pub least : (a b c : Range) → is_within a c ≡ true → is_within b c ≡ true → is_within (joined a b) c ≡ true
  pub met_is : (a b : Range) (z : ℤ) → HeldBy (met a b) z ↔ Holds a z × Holds b z

-- z is held by what the operator gives; of a product that can't be held nothing is said
abbrev pub KnownBy : Outcome → ℤ → Type 0
KnownBy Empty z = ⊥
KnownBy (Within r) z = Holds r z
KnownBy TooLarge z = Unit {0}

-- The number that an operator stands for at members, before it is fitted to the type, is held by what the operator gives on the ranges; and its value in the type by what that becomes there.
pub record IsSound : Type 0 where
  pub before : (op : Op) (t : IntType) (a b : Range) (x y z : ℤ) → IsIn t a → HasRightIn op t b → Holds a x →
      Holds b y → exact op t x y ≡ Ok z → KnownBy (range_of op t a b) z
  pub after : (op : Op) (t : IntType) (a b : Range) (x y z : ℤ) → IsIn t a → HasRightIn op t b → Holds a x →
      Holds b y → value_of op t x y ≡ Ok z → HeldBy (finished t (range_of op t a b)) z

-- A number's conversion is held by what a range becomes in the type, and is the number plus what was added, if that was one number.
pub record Converts : Type 0 where
  pub holds : (t : IntType) (r : Range) (z : ℤ) → Holds r z → Holds (shifted t r).0 (wrapped t z)
  pub adds : (t : IntType) (r : Range) (z by : ℤ) → Holds r z → (shifted t r).1 ≡ Some by → wrapped t z ≡ z +ℤ by
  pub clamps : (t : IntType) (r : Range) (z : ℤ) → Holds r z → InType t z → HeldBy (clamped t r) z

-- a range that was found, without what was added
abbrev pub found_range : Option (Range × Option ℤ) → Option Range
found_range None = None
found_range (Some p) = Some p.0

-- A finish is the finished range.
abbrev pub FinishIsFinished : Type 0
FinishIsFinished = (t : IntType) (o : Outcome) → found_range (finish_of t o) ≡ finished t o

-- What changes nothing: a join or a widening with what is within, and a narrowing by the range itself.
pub record NothingChanges : Type 0 where
  pub joins : (a b : Range) → is_within b a ≡ true → joined a b ≡ a
  pub widenings : (t : IntType) (thresholds : List ℤ) (h n : Range) → is_within n h ≡ true →
      widened t thresholds h n ≡ h
  pub narrowings : (t : IntType) (h : Range) → narrowed t h h ≡ h

-- Ranges of a type make ranges of the type, and a widening step has both within.
pub record StaysInType : Type 0 where
  pub joins : (t : IntType) (a b : Range) → IsIn t a → IsIn t b → IsIn t (joined a b)
  pub meets : (t : IntType) (a b r : Range) → IsIn t a → met a b ≡ Some r → IsIn t r
  pub widenings : (t : IntType) (thresholds : List ℤ) (h n : Range) → IsIn t h → IsIn t n →
      IsIn t (widened t thresholds h n)
  pub narrowings : (t : IntType) (h n : Range) → IsIn t h → IsIn t n → IsIn t (narrowed t h n)
  pub above_held : (t : IntType) (thresholds : List ℤ) (h n : Range) → IsIn t h → IsIn t n →
      is_within h (widened t thresholds h n) ≡ true
  pub above_next : (t : IntType) (thresholds : List ℤ) (h n : Range) → IsIn t h → IsIn t n →
      is_within n (widened t thresholds h n) ≡ true
  pub whole_in : (t : IntType) → IsIn t (whole t)
  pub right_operands : (op : Op) (t : IntType) (b : Range) → IsIn t b → HasRightIn op t b
