-- Tight matrices, and what integers meet them: no bounds that the same integers meet are lower.
use Rattle.std.specs.Prelude.{◌≡◌, ◌≢◌, ℕ, ◌<◌, ◌*◌, ℤ, pos, ◌-ℤ◌, ◌≤ℤ◌, Option, Some}
use Rattle.pk_octmat.specs.Bounds.{AtMost, plus, halved, even_down}
use Rattle.pk_octmat.specs.Octagon.{Octagon, entry, bar, side, Meets}

-- No way over a third number is shorter, bounds on one variable are even, and no bound is above what those on its two
-- numbers give (Miné 2006, section 3.5: tightly closed, over n variables).
pub record IsTight (n : ℕ) (e : ℕ → ℕ → Option ℤ) : Type 0 where
  pub zero : (i : ℕ) → i < 2 * n → e i i ≡ Some (pos 0)
  pub turned : (i j : ℕ) → i < 2 * n → j < 2 * n → e i j ≡ e (bar j) (bar i)
  pub triangle : (i k j : ℕ) → i < 2 * n → k < 2 * n → j < 2 * n → AtMost (e i j) (plus (e i k) (e k j))
  pub even : (i : ℕ) → i < 2 * n → even_down (e i (bar i)) ≡ e i (bar i)
  pub strong : (i j : ℕ) → i < 2 * n → j < 2 * n → AtMost (e i j) (halved (plus (e i (bar i)) (e (bar j) j)))

-- integers that meet e
pub record HasPoint (e : ℕ → ℕ → Option ℤ) : Type 0 where
  pub point : ℕ → ℤ
  pub meets : Meets e point

-- integers that meet e with V(j) - V(i) at least c
pub record Reaches (e : ℕ → ℕ → Option ℤ) (i j : ℕ) (c : ℤ) : Type 0 where
  pub point : ℕ → ℤ
  pub meets : Meets e point
  pub far : c ≤ℤ (side point j -ℤ side point i)

-- Some integers meet a tight matrix; each number up to a bound is reached, every number where there is none; so no bounds
-- that the same integers meet are lower.
pub record TightIsBest : Type 0 where
  pub some : (m : Octagon) → IsTight m.vars (entry m) → HasPoint (entry m)
  pub reached : (m : Octagon) (i j : ℕ) (c : ℤ) → IsTight m.vars (entry m) → i < 2 * m.vars → j < 2 * m.vars → i ≢ j →
      AtMost (Some c) (entry m i j) → Reaches (entry m) i j c
  pub best : (m : Octagon) (f : ℕ → ℕ → Option ℤ) → IsTight m.vars (entry m) →
      ((x : ℕ → ℤ) → Meets (entry m) x → Meets f x) → (i j : ℕ) → i < 2 * m.vars → j < 2 * m.vars →
      AtMost (entry m i j) (f i j)
