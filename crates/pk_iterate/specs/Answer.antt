-- What an iteration answers.
use Rattle.std.specs.Prelude.{◌≡◌, ℕ, ◌+◌, ◌*◌, ◌<◌, ◌≤◌, [], map, Some}
use Rattle.std.specs.List.{range_with_len}
use Rattle.pk_plan.specs.Order.{Level}
use Rattle.pk_iterate.specs.declared.failure.Solve.{Solve}
use Rattle.pk_iterate.specs.declared.failure.Solve.TheVariants.{RunLimit, Memory}
use Rattle.pk_iterate.specs.Behaviour.{Behaviour}
use Rattle.pk_iterate.specs.Iteration.{count_of, cell_after, next_element, progress}
use Rattle.pk_iterate.specs.Outcome.{Outcome}
use Rattle.pk_iterate.specs.Recursion.{Goes}

-- some element stands more than `most` times among the first `elements * most + 1` runs
abbrev pub Over : {C : Type 0} → Behaviour C → Level → (elements most : ℕ) → Type 0
Over b order elements most =
    (e : ℕ) × (e < elements) × (most < count_of (progress b order (elements * most + 1)).runs e)

-- No element stands more than `most` times. The trace is whole, its runs are those of the recursion,
-- and these are the cells and the numbers of runs after it.
pub record IsResult {C : Type 0} (b : Behaviour C) (order : Level) (elements most : ℕ) (it : Outcome C) : Type 0 where
  pub within : ¬ Over b order elements most
  pub goes : Goes b order [] (progress b order (elements * most + 1)).runs
  pub whole : (progress b order (elements * most + 1)).left ≡ []
  pub cells_after : it.cells
      ≡ map (cell_after b (progress b order (elements * most + 1)).runs) (range_with_len 0 elements)
  pub counts : it.runs ≡ map (count_of (progress b order (elements * most + 1)).runs) (range_with_len 0 elements)

-- After some runs, none of them past `most`, the next is e's, which would be the one past `most`.
pub record IsFirstOver {C : Type 0} (b : Behaviour C) (order : Level) (elements most e : ℕ) : Type 0 where
  pub over : Over b order elements most
  pub made : ℕ
  pub next : next_element (progress b order made).left ≡ Some e
  pub full : count_of (progress b order made).runs e ≡ most
  pub before : (u : ℕ) → u < elements → count_of (progress b order made).runs u ≤ most

-- what an error says
abbrev pub IsCause : {C : Type 0} → Behaviour C → Level → (elements most : ℕ) → Solve → Type 0
IsCause b order elements most (RunLimit element run) = IsFirstOver b order elements most element × (run ≡ most + 1)
IsCause b order elements most Memory = Unit {0}
