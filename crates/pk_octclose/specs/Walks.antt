-- Walks over the places of a matrix, and their sums.
use Rattle.std.specs.Prelude.{◌≡◌, ℕ, ◌<◌, ℤ, pos, Option, Some, List, [], ◌∷◌, true}
use Rattle.pk_octmat.specs.Bounds.{AtMost, plus, lesser, is_negative}

-- the sum of the bounds along the walk from i to j by the places of a list
abbrev pub walk_sum : (ℕ → ℕ → Option ℤ) → ℕ → List ℕ → ℕ → Option ℤ
walk_sum e i [] j = e i j
walk_sum e i (v ∷ vs) j = plus (e i v) (walk_sum e v vs j)

-- b is the least sum of a walk from i to j
pub record IsLeast (e : ℕ → ℕ → Option ℤ) (i j : ℕ) (b : Option ℤ) : Type 0 where
  pub by : List ℕ
  pub reached : walk_sum e i by j ≡ b
  pub least : (vs : List ℕ) → AtMost b (walk_sum e i vs j)

-- each bound of f is the least sum of a walk, and 0 from a place to itself
pub record HasLeastSums (d : ℕ) (e f : ℕ → ℕ → Option ℤ) : Type 0 where
  pub each : (i j : ℕ) → i < d → j < d → IsLeast e i j (f i j)
  pub zero : (i : ℕ) → i < d → f i i ≡ Some (pos 0)

-- a walk leads back to where it starts, and its sum is negative
pub record HasNegativeCycle (e : ℕ → ℕ → Option ℤ) : Type 0 where
  pub at : ℕ
  pub by : List ℕ
  pub negative : is_negative (walk_sum e at by at) ≡ true

-- the bounds, lowered to what leads through place k
abbrev pub relaxed : (ℕ → ℕ → Option ℤ) → ℕ → ℕ → ℕ → Option ℤ
relaxed e k i j = lesser (e i j) (plus (e i k) (e k j))

-- a number of the diagonal is negative
pub record IsNegativeAt (d : ℕ) (e : ℕ → ℕ → Option ℤ) : Type 0 where
  pub at : ℕ
  pub place : at < d
  pub negative : is_negative (e at at) ≡ true
