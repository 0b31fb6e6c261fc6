-- The two places of a variable at once.
use Rattle.std.specs.Prelude.{◌≡◌, ◌⊎◌, ℕ, ◌<◌, ◌≤◌, ◌+◌, ℤ, Option, None, List, slice_index_or, true}
use Rattle.pk_octmat.specs.Bounds.{plus, lesser, is_negative}
use Rattle.pk_octmat.specs.Octagon.{bar}
use Rattle.pk_octclose.specs.Walks.{relaxed, IsNegativeAt}

-- a row of its own has the bounds of row k, if it has room for all d
abbrev pub IsCopy : ℕ → (ℕ → ℕ → Option ℤ) → ℕ → List (Option ℤ) → Type 0
IsCopy d e k row = d ≤ 128 → (b : ℕ) → b < d → slice_index_or row b None ≡ e k b

-- the bounds, lowered to what leads over rows p and p + 1: the bound to place p is that from p + 1 to bar i
abbrev pub over_pair : (ℕ → ℕ → Option ℤ) → ℕ → ℕ → ℕ → Option ℤ
over_pair e p i j = lesser (lesser (e i j) (plus (e (p + 1) (bar i)) (e p j))) (plus (e p (bar i)) (e (p + 1) j))

-- a walk that leads back through places p and p + 1 is negative
abbrev pub IsShort : ℕ → (ℕ → ℕ → Option ℤ) → ℕ → Type 0
IsShort d e p =
    (is_negative (plus (e p (p + 1)) (e (p + 1) p)) ≡ true) ⊎ IsNegativeAt d (relaxed (relaxed e p) (p + 1))
