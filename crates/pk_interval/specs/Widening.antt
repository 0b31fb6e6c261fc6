-- Widening with thresholds, narrowing, and how long a chain of widening steps can be.
use Rattle.std.specs.Prelude.{◌≡◌, ◌+◌, ◌*◌, ℕ, ◌<◌, ◌≤◌, ◌&&◌, Bool, false, if◌then◌else◌, ℤ, int_le, int_lt, Option, Some, None, List, [], ◌∷◌, length, filter, fold}
use Rattle.std.specs.Ordering.{int_eq}
use Rattle.std.specs.Int.{int_min, int_max}
use Rattle.pk_ctypes.specs.declared.types.IntType.{IntType}
use Rattle.pk_ctypes.specs.Types.{low_of, high_of, is_in_type}
use Rattle.pk_interval.specs.Ranges.{Range, IsIn, Holds, range_from, is_within}

-- the least threshold that is x or more, where it is in the type, or else the type's end
abbrev pub next_up : IntType → List ℤ → ℤ → ℤ
next_up t thresholds x = fold int_min (high_of t) (filter (λ c. int_le x c) thresholds)

abbrev pub next_down : IntType → List ℤ → ℤ → ℤ
next_down t thresholds x = fold int_max (low_of t) (filter (λ c. int_le c x) thresholds)

-- a bound that was passed moves to the next threshold
abbrev pub lowered : IntType → List ℤ → ℤ → ℤ → ℤ
lowered t thresholds held next = if int_lt next held then next_down t thresholds next else held

abbrev pub raised : IntType → List ℤ → ℤ → ℤ → ℤ
raised t thresholds held next = if int_lt held next then next_up t thresholds next else held

abbrev pub widened : IntType → List ℤ → Range → Range → Range
widened t thresholds h n = record { lo = lowered t thresholds h.lo n.lo; hi = raised t thresholds h.hi n.hi }

-- a bound at the type's end becomes the next one's
abbrev pub narrowed_low : IntType → ℤ → ℤ → ℤ
narrowed_low t held next = if int_eq held (low_of t) then next else held

abbrev pub narrowed_high : IntType → ℤ → ℤ → ℤ
narrowed_high t held next = if int_eq held (high_of t) then next else held

-- where nothing would be left, the range stays
abbrev pub narrowed_if : Option Range → Range → Range
narrowed_if None h = h
narrowed_if (Some r) h = r

abbrev pub narrowed : IntType → Range → Range → Range
narrowed t h n = narrowed_if (range_from (narrowed_low t h.lo n.lo) (narrowed_high t h.hi n.hi)) h

-- each range is one that is not yet within, and is widened into what there is
abbrev pub IsChain : IntType → List ℤ → Range → List Range → Type 0
IsChain t thresholds h [] = Unit {0}
IsChain t thresholds h (n ∷ ns) =
    IsIn t n × (is_within n h ≡ false) × IsChain t thresholds (widened t thresholds h n) ns

-- A widening step holds what it had and what is new; where that is not within, the range grows; and no chain is long.
pub record Widens : Type 0 where
  pub keeps : (t : IntType) (thresholds : List ℤ) (h n : Range) (z : ℤ) → IsIn t h → IsIn t n → Holds h z →
      Holds (widened t thresholds h n) z
  pub takes : (t : IntType) (thresholds : List ℤ) (h n : Range) (z : ℤ) → IsIn t h → IsIn t n → Holds n z →
      Holds (widened t thresholds h n) z
  pub grows : (t : IntType) (thresholds : List ℤ) (h n : Range) → IsIn t h → IsIn t n → is_within n h ≡ false →
      is_within (widened t thresholds h n) h ≡ false
  pub ends : (t : IntType) (thresholds : List ℤ) (h : Range) (ns : List Range) → IsIn t h →
      IsChain t thresholds h ns → length ns ≤ 2 * (length thresholds + 1)

-- A narrowing step holds what both hold.
abbrev pub Narrows : Type 0
Narrows = (t : IntType) (h n : Range) (z : ℤ) → Holds h z → Holds n z → Holds (narrowed t h n) z

-- how many numbers of a list pass a test
abbrev pub tally : (ℤ → Bool) → List ℤ → ℕ
tally p [] = 0
tally p (c ∷ cs) = (if p c then 1 else 0) + tally p cs

-- a number of the type beyond a bound
abbrev pub lies_above : IntType → ℤ → ℤ → Bool
lies_above t hi c = int_lt hi c && is_in_type t c

abbrev pub lies_below : IntType → ℤ → ℤ → Bool
lies_below t lo c = int_lt c lo && is_in_type t c

-- how often a range's bounds can still move: how many thresholds of the type, its ends among them, lie beyond each
abbrev pub moves : IntType → List ℤ → Range → ℕ
moves t thresholds r =
    tally (lies_above t r.hi) (high_of t ∷ thresholds) + tally (lies_below t r.lo) (low_of t ∷ thresholds)

-- The moves are a rank for widening: few, never more after a step, and fewer after one that isn't within.
pub record MovesAreRanks : Type 0 where
  pub few : (t : IntType) (thresholds : List ℤ) (h : Range) → moves t thresholds h ≤ 2 * (length thresholds + 1)
  pub stays : (t : IntType) (thresholds : List ℤ) (h n : Range) → IsIn t n →
      moves t thresholds (widened t thresholds h n) ≤ moves t thresholds h
  pub falls : (t : IntType) (thresholds : List ℤ) (h n : Range) → IsIn t n → is_within n h ≡ false →
      moves t thresholds (widened t thresholds h n) < moves t thresholds h
