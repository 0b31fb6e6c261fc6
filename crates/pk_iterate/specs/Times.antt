-- Which cells are up to date, by times.
use Rattle.std.specs.Prelude.{◌≡◌, ℕ, ◌<◌, ◌≤◌, List, length, All, Some, slice_get, slice_index}
use Rattle.pk_iterate.specs.Behaviour.{Behaviour, inputs_in}

-- A cell was made at a time, not 0, and each one that it was made of was changed before, if at all.
abbrev pub IsUpToDate : List ℕ → ℕ → List ℕ → Type 0
IsUpToDate changed at reads = (0 < at) × All (λ u. slice_index changed u < at) reads

-- What the times of changes and of making say of the cells.
pub record AreTimes {C : Type 0} (b : Behaviour C) (cells : List C) (changed made : List ℕ) (clock : ℕ) : Type 0 where
  -- there is one of each for each cell
  pub each_changed : length changed ≡ length cells
  pub each_made : length made ≡ length cells
  -- no cell was made in time to come
  pub past : (e : ℕ) → slice_index made e ≤ clock
  -- a cell that is up to date is what the cells that its element reads give
  pub current : (e : ℕ) → e < length cells → IsUpToDate changed (slice_index made e) (b.reads e) →
      slice_get cells e ≡ Some (b.apply e (inputs_in b cells e))
