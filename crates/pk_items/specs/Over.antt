-- Elements that are over: done, and never to be run again.
use Rattle.std.specs.Prelude.{◌≡◌, ℕ, ◌<◌, ◌⊎◌, List, true, false}
use Rattle.pk_plan.specs.Order.{Level}
use Rattle.pk_plan.specs.Plans.{PlanView}
use Rattle.pk_plan.specs.Axioms.{Axioms}
use Rattle.pk_plan.specs.Shape.{Shape, shape_of}
use Rattle.pk_iterate.specs.Behaviour.{Behaviour}
use Rattle.pk_iterate.specs.Ending.{Ends, result_cell, result_count}
use Rattle.pk_iterate.specs.Fits.{FitsPlan}
use Rattle.pk_core.specs.declared.events.Event.{Event}
use Rattle.pk_core.specs.declared.events.Status.TheVariants.{Done}
use Rattle.pk_core.specs.States.{State, cell_in, run_number}
use Rattle.pk_core.specs.Events.{start, AllEnabled, played}
use Rattle.pk_core.specs.Orders.{IsOrderOf}

-- e is x, or lies in the component whose exit x is; and x lies in none
pub record IsUnder (p : Shape) (x e : ℕ) : Type 0 where
  pub outermost : (y : ℕ) → p.inside y x ≡ false
  pub under : (e ≡ x) ⊎ (p.inside x e ≡ true)

-- the element was run for the last time: it has the recursion's count of runs, and the cell that this leaves
pub record IsLast {C : Type 0} (b : Behaviour C) {order : Level} (ends : Ends b order) (s : State C)
    (e : ℕ) : Type 0 where
  pub run : run_number (s e) ≡ result_count ends e
  pub cell : cell_in b s e ≡ result_cell ends e
  pub status : (s e).status ≡ Done

-- whatever list of events was played: where an outermost exit or an element outside all components is done, it and its component
-- are over
abbrev pub DoneIsOver : {C : Type 0} → Behaviour C → Type 0
DoneIsOver b =
    (p : PlanView) (order : Level) (ends : Ends b order) (events : List Event) → Axioms p
    → IsOrderOf (shape_of p) order → FitsPlan b p → AllEnabled b (shape_of p) (start (shape_of p)) events
    → (x e : ℕ) → e < p.elements → IsUnder (shape_of p) x e
    → (played b (shape_of p) (start (shape_of p)) events x).status ≡ Done
    → IsLast b ends (played b (shape_of p) (start (shape_of p)) events) e
