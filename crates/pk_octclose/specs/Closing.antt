-- What closing gives.
use Rattle.std.specs.Prelude.{◌⊎◌, ◌==◌, ◌^◌, if◌then◌else◌, ◌≡◌, ℕ, ◌<◌, ℤ, pos, Option, Some, true}
use Rattle.pk_octmat.specs.Bounds.{AtMost, IsNear, plus, lesser, capped, halved, even_down, is_negative}
use Rattle.pk_octmat.specs.Octagon.{Octagon, bar, entry, Meets}
use Rattle.pk_octclose.specs.Walks.{HasLeastSums, HasNegativeCycle}

-- the bounds from each place to its negative down to even, since they bound twice an integer
abbrev pub evened : (ℕ → ℕ → Option ℤ) → ℕ → ℕ → Option ℤ
evened p i j = if j == bar i then even_down (p i j) else p i j

-- from a place to its negative and back
abbrev pub there_and_back : (ℕ → ℕ → Option ℤ) → ℕ → Option ℤ
there_and_back p i = plus (p i (bar i)) (p (bar i) i)

-- each bound at most what the bounds on its two numbers give
abbrev pub tight : (ℕ → ℕ → Option ℤ) → ℕ → ℕ → Option ℤ
tight p i j = lesser (p i j) (halved (plus (p i (bar i)) (p (bar j) j)))

-- r is the closing of e: least sums, even bounds that don't exclude each other, one tightening, and the cap
pub record IsClosing (d : ℕ) (e r : ℕ → ℕ → Option ℤ) : Type 0 where
  pub sums : ℕ → ℕ → Option ℤ
  pub least : HasLeastSums d e sums
  pub halves : (i : ℕ) → i < d → AtMost (Some (pos 0)) (there_and_back (evened sums) i)
  pub is : (i j : ℕ) → i < d → j < d → r i j ≡ capped (tight (evened sums) i j)

-- e is its own closing
abbrev pub IsClosed : ℕ → (ℕ → ℕ → Option ℤ) → Type 0
IsClosed d e = IsClosing d e e

-- the bounds on one number exclude each other once they are even
pub record HasNoHalf (d : ℕ) (e : ℕ → ℕ → Option ℤ) : Type 0 where
  pub sums : ℕ → ℕ → Option ℤ
  pub least : HasLeastSums d e sums
  pub at : ℕ
  pub place : at < d
  pub negative : is_negative (there_and_back (evened sums) at) ≡ true

-- no integers meet e, as closing finds
abbrev pub IsEmpty : ℕ → (ℕ → ℕ → Option ℤ) → Type 0
IsEmpty d e = HasNegativeCycle e ⊎ HasNoHalf d e

-- the integers that meet e are those that meet r
pub record KeepsPoints (e r : ℕ → ℕ → Option ℤ) : Type 0 where
  pub to : (x : ℕ → ℤ) → Meets e x → Meets r x
  pub from : (x : ℕ → ℤ) → Meets r x → Meets e x

-- each bound is none or within 2^58 of 0
abbrev pub IsSmall : Octagon → Type 0
IsSmall m = (i j : ℕ) → IsNear (2 ^ 58) (entry m i j)
