-- Half of a matrix: the bounds between each place and those of its own variable and of earlier ones. The others are read by coherence.
use Rattle.std.specs.Prelude.{◌≡◌, ℕ, ◌<◌, ◌+◌, ◌*◌, ◌/◌, ◌%◌, ◌^◌, ◌&&◌, nat_lt, if◌then◌else◌, ℤ, Option, None, List, slice_index_or, length}
use Rattle.pk_octmat.specs.Octagon.{Octagon, bar, cell_at, tabled, IsMatrix}

-- how many bounds are kept of n variables, and so where those of variable n begin
abbrev pub block : ℕ → ℕ
block n = 2 * (n * (n + 1))

-- the place of the bound in row i and column j, of those that are kept
abbrev pub row_place : ℕ → ℕ → ℕ
row_place i j = block (i / 2) + (i % 2) * (2 * (i / 2) + 2) + j

-- the place of the bound on V(j) - V(i): where j is of a later variable, that of the same difference from bar j to bar i
abbrev pub spot : ℕ → ℕ → ℕ
spot i j = if nat_lt (i / 2) (j / 2) then row_place (bar j) (bar i) else row_place i j

-- the bound on V(j) - V(i) of d places, or none outside them
unfoldable pub half_at : ℕ → List (Option ℤ) → ℕ → ℕ → Option ℤ
half_at d cells i j = if nat_lt i d && nat_lt j d then slice_index_or cells (spot i j) None else None

-- all bounds of d places, of which half are kept
unfoldable pub unfolded : ℕ → List (Option ℤ) → List (Option ℤ)
unfolded d cells = tabled d (half_at d cells)

-- the bound in a row and a column, kept or by coherence, or none outside them
abbrev pub kept_at : ℕ → List (Option ℤ) → ℕ → ℕ → Option ℤ
kept_at d cells = cell_at d (unfolded d cells)

-- the octagon of which these bounds are kept
abbrev pub octagon_in : ℕ → List (Option ℤ) → Octagon
octagon_in n cells = record { vars = n; cells = unfolded (2 * n) cells }

-- the kept bounds of a matrix of d places
pub record IsHalf (d : ℕ) (cells : List (Option ℤ)) : Type 0 where
  pub size : length cells ≡ block (d / 2)
  pub whole : IsMatrix d (unfolded d cells)

-- the kept bounds of an octagon over n variables, whose places can be counted in 32 bits
pub record IsKept (n : ℕ) (cells : List (Option ℤ)) : Type 0 where
  pub few : n < 2 ^ 31
  pub half : IsHalf (2 * n) cells
