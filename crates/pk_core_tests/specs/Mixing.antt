-- A system for the tests: each cell tells what was read, in which order, and an exit goes back at most three times.
use Rattle.std.specs.Prelude.{ℕ, ◌+◌, ◌*◌, ◌%◌, ◌==◌, ◌||◌, List, [], ◌∷◌, slice_index_or, if◌then◌else◌}
use Rattle.pk_iterate.specs.declared.systems.Decision.{Decision}
use Rattle.pk_iterate.specs.declared.systems.Decision.TheVariants.{Stable, Again}
use Rattle.pk_iterate.specs.Behaviour.{Behaviour}

abbrev pub mixed_more : ℕ → ℕ → ℕ
mixed_more so_far cell = (so_far * 31 + cell % 65521 + 7) % 65521

abbrev pub mixed_from : ℕ → List ℕ → ℕ
mixed_from so_far [] = so_far
mixed_from so_far (cell ∷ cells) = mixed_from (mixed_more so_far cell) cells

-- the first cell that an exit reads is its own, which counts the turns of the entry
abbrev pub turn_at : ℕ → List ℕ → Decision ℕ
turn_at own cells = if (own % 4 == 3) || (mixed_from own cells % 4 == 0) then Stable 0 else Again (own % 4 + 1)

abbrev pub turn_of : List ℕ → Decision ℕ
turn_of [] = Stable 0
turn_of (own ∷ cells) = turn_at (own % 65521) cells

abbrev pub mixing : List (List ℕ) → Behaviour ℕ
mixing rows =
    record {
      reads = λ e. slice_index_or rows e [];
      first = λ e. 0;
      apply = λ e cells. mixed_from 1 cells;
      decide = λ x cells. turn_of cells;
    }
