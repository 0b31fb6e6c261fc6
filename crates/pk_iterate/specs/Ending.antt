-- Where the recursion ends: the whole trace, and what it leaves.
use Rattle.std.specs.Prelude.{◌≡◌, ◌↔◌, ℕ, ◌<◌, ◌≤◌, List, [], map, Some}
use Rattle.std.specs.List.{range_with_len}
use Rattle.pk_plan.specs.Order.{Level}
use Rattle.pk_iterate.specs.Behaviour.{Behaviour}
use Rattle.pk_iterate.specs.Iteration.{count_of, cell_after, next_element, progress}
use Rattle.pk_iterate.specs.Recursion.{Goes}
use Rattle.pk_iterate.specs.Runs.{run_value, values_read}
use Rattle.pk_iterate.specs.Outcome.{Outcome}
use Rattle.pk_iterate.specs.Answer.{Over, IsResult}
use Rattle.pk_iterate.specs.Laws.{PlacesWithin}

-- after some number of runs none is left
pub record Ends {C : Type 0} (b : Behaviour C) (order : Level) : Type 0 where
  pub made : ℕ
  pub whole : (progress b order made).left ≡ []

-- the whole trace: all runs, the newest first
abbrev pub trace : {C : Type 0} {b : Behaviour C} {order : Level} → Ends b order → List (ℕ × C)
trace {b = b} {order = order} ends = (progress b order ends.made).runs

-- each element's cell after it, and how often the element stands in it
abbrev pub result_cell : {C : Type 0} {b : Behaviour C} {order : Level} → Ends b order → ℕ → C
result_cell {b = b} ends e = cell_after b (trace ends) e

abbrev pub result_count : {C : Type 0} {b : Behaviour C} {order : Level} → Ends b order → ℕ → ℕ
result_count ends e = count_of (trace ends) e

-- The whole trace is one, and all that is said of a number of runs is said of it.
pub record TraceIsOne {C : Type 0} (b : Behaviour C) : Type 0 where
  -- there is no other
  pub one : (order : Level) (ends ends' : Ends b order) → trace ends ≡ trace ends'
  -- it is the runs of the rules, which lead to it alone
  pub goes : (order : Level) (ends : Ends b order) → Goes b order [] (trace ends)
  pub reached : (order : Level) (after : List (ℕ × C)) → Goes b order [] after →
      (ends : Ends b order) × (trace ends ≡ after)
  -- after any number of runs each count is at most that of the whole trace
  pub counts : (order : Level) (ends : Ends b order) (n e : ℕ) →
      count_of (progress b order n).runs e ≤ result_count ends e
  -- and is below it where the element is the next to be run
  pub next : (order : Level) (ends : Ends b order) (n e : ℕ) → next_element (progress b order n).left ≡ Some e →
      count_of (progress b order n).runs e < result_count ends e
  -- what was run and read stays
  pub values : (order : Level) (ends : Ends b order) (n e k : ℕ) → k ≤ count_of (progress b order n).runs e →
      run_value b (progress b order n).runs e k ≡ run_value b (trace ends) e k
  pub reads : (order : Level) (ends : Ends b order) (n e k : ℕ) → k ≤ count_of (progress b order n).runs e →
      values_read b (progress b order n).runs e k ≡ values_read b (trace ends) e k
  -- the limit is exceeded where the whole trace exceeds it
  pub over : (order : Level) (ends : Ends b order) (elements most : ℕ) → PlacesWithin order elements →
      Over b order elements most ↔ ((e : ℕ) × (e < elements) × (most < result_count ends e))
  -- where it isn't exceeded there is a whole trace, and an iteration's result is what it leaves
  pub within : (order : Level) (elements most : ℕ) → PlacesWithin order elements → ¬ Over b order elements most →
      Ends b order
  pub results : (order : Level) (elements most : ℕ) (it : Outcome C) → IsResult b order elements most it →
      (ends : Ends b order) × (it.cells ≡ map (result_cell ends) (range_with_len 0 elements))
      × (it.runs ≡ map (result_count ends) (range_with_len 0 elements))
