-- Systems over the orders of digraphs.
use Rattle.std.specs.Prelude.{◌≡◌, ℕ, ◌<◌, ◌≤◌, List, length, slice_get, Some}
use Rattle.pk_plan.specs.Order.{Level}
use Rattle.pk_plan.specs.Plans.{PlanView, end_of}
use Rattle.pk_plan.specs.Shape.{shape_of}
use Rattle.pk_order.specs.Ordered.{IsOrdered}
use Rattle.pk_iterate.specs.Behaviour.{Behaviour}
use Rattle.pk_iterate.specs.Outcome.{Outcome}
use Rattle.pk_iterate.specs.Answer.{IsResult}
use Rattle.pk_iterate.specs.Ending.{Ends, trace}
use Rattle.pk_core.specs.declared.events.Event.{Event}
use Rattle.pk_core.specs.declared.events.Status.TheVariants.{Done}
use Rattle.pk_core.specs.States.{State, cell_in, run_number}
use Rattle.pk_core.specs.Events.{start, AllEnabled, played}
use Rattle.pk_iterate.specs.Fits.{FitsPlan}
use Rattle.pk_core.specs.Promises.{runs_in, KeepsTo}

-- Over the plan of a digraph, where the recursion over the digraph's order ends: each state that a list of events reaches keeps to
-- the recursion, and no more runs are made than the recursion makes.
pub record EveryOrderKeeps {C : Type 0} (b : Behaviour C) : Type 0 where
  pub keeps : (g : List (List ℕ)) (p : PlanView) (order : Level) (ends : Ends b order) (events : List Event) →
      IsOrdered g p order → FitsPlan b p
      → AllEnabled b (shape_of p) (start (shape_of p)) events →
      KeepsTo b p ends (played b (shape_of p) (start (shape_of p)) events)
  pub runs : (g : List (List ℕ)) (p : PlanView) (order : Level) (ends : Ends b order) (events : List Event) →
      IsOrdered g p order → FitsPlan b p
      → AllEnabled b (shape_of p) (start (shape_of p)) events → runs_in events ≤ length (trace ends)

-- each element's cell and run number are those of the iteration
abbrev pub IsAsIterated : {C : Type 0} → Behaviour C → PlanView → State C → Outcome C → Type 0
IsAsIterated b p s it =
    (e : ℕ) → e < p.elements → (slice_get it.cells e ≡ Some (cell_in b s e))
    × (slice_get it.runs e ≡ Some (run_number (s e)))

abbrev pub EndsAsIterated : {C : Type 0} → Behaviour C → Type 0
EndsAsIterated {C} b =
    (g : List (List ℕ)) (p : PlanView) (order : Level) (most : ℕ) (it : Outcome C) (events : List Event) →
    IsOrdered g p order → FitsPlan b p → IsResult b order p.elements most it
    → AllEnabled b (shape_of p) (start (shape_of p)) events →
    (played b (shape_of p) (start (shape_of p)) events (end_of p)).status ≡ Done
    → IsAsIterated b p (played b (shape_of p) (start (shape_of p)) events) it
