-- Laws of the iteration, each for every order.
use Rattle.std.specs.Prelude.{◌≡◌, ℕ, ◌+◌, ◌*◌, ◌<◌, ◌≤◌, List, [], All, Contains}
use Rattle.pk_plan.specs.declared.places.Place.{Place}
use Rattle.pk_plan.specs.Order.{Level, places_of}
use Rattle.pk_iterate.specs.Behaviour.{Behaviour, HoldEach, cell_made}
use Rattle.pk_iterate.specs.Iteration.{count_of, cell_after, inputs_after, progress}
use Rattle.pk_iterate.specs.Recursion.{Goes}
use Rattle.pk_iterate.specs.Runs.{runs_before, run_value, values_read}
use Rattle.pk_iterate.specs.Answer.{Over}

-- the places of an order have elements below `elements`
abbrev pub PlacesWithin : Level → ℕ → Type 0
PlacesWithin order elements = All (λ (p : Place). p.element < elements) (places_of order)

-- where no element is run more than `most` times in the first `elements * most + 1` runs, no run is left after them
abbrev pub WithinIsWhole : {C : Type 0} → Behaviour C → Type 0
WithinIsWhole b =
    (order : Level) (elements most : ℕ) → PlacesWithin order elements → ¬ Over b order elements most
    → (progress b order (elements * most + 1)).left ≡ []

-- where an element is run more than `most` times in any number of runs, some element is so in the first `elements * most + 1`
abbrev pub CountsBeyondAreOver : {C : Type 0} → Behaviour C → Type 0
CountsBeyondAreOver b =
    (order : Level) (elements most n e : ℕ) → PlacesWithin order elements → e < elements
    → most < count_of (progress b order n).runs e → Over b order elements most

pub record RecursionIsDetermined {C : Type 0} (b : Behaviour C) : Type 0 where
  -- the rules lead to the same runs, however they are applied
  pub one : (level : Level) (runs after after' : List (ℕ × C)) → Goes b level runs after → Goes b level runs after' →
      after ≡ after'
  -- where no run is left, the runs made are those of the rules
  pub goes : (order : Level) (n : ℕ) → (progress b order n).left ≡ [] → Goes b order [] (progress b order n).runs
  -- and the runs of the rules are made, one by one
  pub reached : (order : Level) (after : List (ℕ × C)) → Goes b order [] after →
      (n : ℕ) × ((progress b order n).runs ≡ after) × ((progress b order n).left ≡ [])

-- the cell of e's k-th run is made of the cells that it reads, at a place of the order where e stands
pub record IsMade {C : Type 0} (b : Behaviour C) (order : Level) (runs : List (ℕ × C)) (e k : ℕ) : Type 0 where
  pub place : Place
  pub stands : Contains (places_of order) place
  pub element : place.element ≡ e
  pub made : run_value b runs e k ≡ cell_made b place (values_read b runs e k)

pub record RunValuesAgree {C : Type 0} (b : Behaviour C) : Type 0 where
  -- the newest run's cell is the element's cell
  pub newest : (runs : List (ℕ × C)) (e : ℕ) → run_value b runs e (count_of runs e) ≡ cell_after b runs e
  -- a run's cell, and what it reads, stay as more runs are made
  pub values_stay : (order : Level) (m n e k : ℕ) → m ≤ n → k ≤ count_of (progress b order m).runs e →
      run_value b (progress b order n).runs e k ≡ run_value b (progress b order m).runs e k
  pub reads_stay : (order : Level) (m n e k : ℕ) → m ≤ n → k ≤ count_of (progress b order m).runs e →
      values_read b (progress b order n).runs e k ≡ values_read b (progress b order m).runs e k
  -- a run reads what the elements' cells are before it
  pub reads : (runs : List (ℕ × C)) (e k : ℕ) → values_read b runs e k ≡ inputs_after b (runs_before runs e k) e
  -- and its cell is made of that
  pub made : (order : Level) (n e k : ℕ) → 0 < k → k ≤ count_of (progress b order n).runs e →
      IsMade b order (progress b order n).runs e k

-- whatever an element holds, before any run and after each, and whatever a run reads, may be held
pub record CellsAreHeld {C : Type 0} (b : Behaviour C) (may_hold : ℕ → C → Type 0) : Type 0 where
  pub cells : (order : Level) (n e : ℕ) → may_hold e (cell_after b (progress b order n).runs e)
  pub values : (order : Level) (n e k : ℕ) → may_hold e (run_value b (progress b order n).runs e k)
  pub read : (order : Level) (n e k : ℕ) → HoldEach may_hold (b.reads e) (values_read b (progress b order n).runs e k)
