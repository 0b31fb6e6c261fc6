-- Matrices of bounds on the differences of numbers and their negatives (Miné 2006, section 3).
use Rattle.std.specs.Prelude.{◌≡◌, ℕ, ◌<◌, ◌+◌, ◌-◌, ◌*◌, ◌/◌, ◌%◌, ◌^◌, ◌&&◌, ◌||◌, nat_lt, ◌==◌, if◌then◌else◌, ℤ, pos, ◌-ℤ◌, neg_ℤ, Option, Some, None, List, map, slice_index_or, length}
use Rattle.std.specs.List.{range_with_len}
use Rattle.pk_octmat.specs.Bounds.{AtMost, IsNear}

-- the bounds of a matrix over a number of variables, row by row
pub record Octagon : Type 0 where
  pub vars : ℕ
  pub cells : List (Option ℤ)

-- the bound in a row and a column, in rows of d, or none outside them
unfoldable pub cell_at : ℕ → List (Option ℤ) → ℕ → ℕ → Option ℤ
cell_at d cells i j = if nat_lt i d && nat_lt j d then slice_index_or cells (i * d + j) None else None

-- the bound on V(j) - V(i), none where i or j is no place
abbrev pub entry : Octagon → ℕ → ℕ → Option ℤ
entry m = cell_at (2 * m.vars) m.cells

-- the place of the negative
abbrev pub bar : ℕ → ℕ
bar i = i + 1 - 2 * (i % 2)

-- V(2k) is x_k, V(2k + 1) its negative
abbrev pub side : (ℕ → ℤ) → ℕ → ℤ
side x i = if (i % 2) == 0 then x (i / 2) else neg_ℤ (x (i / 2))

-- the numbers x meet all bounds
pub record Meets (e : ℕ → ℕ → Option ℤ) (x : ℕ → ℤ) : Type 0 where
  pub each : (i j : ℕ) → AtMost (Some (side x j -ℤ side x i)) (e i j)

-- the numbers x, but v as number k
abbrev pub with_number : (ℕ → ℤ) → ℕ → ℤ → ℕ → ℤ
with_number x k v i = if i == k then v else x i

-- the diagonal is 0, and V(j) - V(i) has the bound of the same difference from bar j to bar i
pub record IsCoherent (d : ℕ) (e : ℕ → ℕ → Option ℤ) : Type 0 where
  pub zero : (i : ℕ) → i < d → e i i ≡ Some (pos 0)
  pub turned : (i j : ℕ) → e i j ≡ e (bar j) (bar i)

-- what every matrix of d places is
pub record IsMatrix (d : ℕ) (cells : List (Option ℤ)) : Type 0 where
  pub size : length cells ≡ d * d
  pub coherent : IsCoherent d (cell_at d cells)
  pub near : (i j : ℕ) → IsNear (2 ^ 66) (cell_at d cells i j)

-- the places of a matrix can be counted in 32 bits
pub record IsOctagon (m : Octagon) : Type 0 where
  pub few : m.vars < 2 ^ 31
  pub whole : IsMatrix (2 * m.vars) m.cells

-- a bound at a place and its coherent one
abbrev pub written : (ℕ → ℕ → Option ℤ) → ℕ → ℕ → Option ℤ → ℕ → ℕ → Option ℤ
written e i j b a c = if ((a == i) && (c == j)) || ((a == bar j) && (c == bar i)) then b else e a c

-- no bounds but the diagonal
abbrev pub top_bound : ℕ → ℕ → Option ℤ
top_bound i j = if i == j then Some (pos 0) else None

-- no bounds on variable k
abbrev pub forgotten : (ℕ → ℕ → Option ℤ) → ℕ → ℕ → ℕ → Option ℤ
forgotten e k i j = if ((i / 2) == k) || ((j / 2) == k) then top_bound i j else e i j

-- a matrix over n variables with these bounds
pub record HasEntries (n : ℕ) (f : ℕ → ℕ → Option ℤ) (m : Octagon) : Type 0 where
  pub vars : m.vars ≡ n
  pub each : (i j : ℕ) → i < 2 * n → j < 2 * n → entry m i j ≡ f i j

-- the bounds of d places, row by row
abbrev pub tabled : ℕ → (ℕ → ℕ → Option ℤ) → List (Option ℤ)
tabled d f = map (λ k. f (k / d) (k % d)) (range_with_len 0 (d * d))

-- the matrix over n variables with these bounds
abbrev pub octagon_of : ℕ → (ℕ → ℕ → Option ℤ) → Octagon
octagon_of n f = record { vars = n; cells = tabled (2 * n) f }
