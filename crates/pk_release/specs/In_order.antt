-- Lists of events that go through the items of the linear order one after another.
use Rattle.std.specs.Prelude.{◌≡◌, ℕ, ◌<◌, ◌≤◌, List, take, true}
use Rattle.pk_plan.specs.Order.{Level}
use Rattle.pk_plan.specs.Plans.{PlanView, end_of}
use Rattle.pk_plan.specs.Linear.{items_of}
use Rattle.pk_plan.specs.Shape.{shape_of}
use Rattle.pk_iterate.specs.Behaviour.{Behaviour}
use Rattle.pk_core.specs.declared.events.Event.{Event}
use Rattle.pk_core.specs.declared.events.Status.TheVariants.{Done}
use Rattle.pk_core.specs.States.{State}
use Rattle.pk_core.specs.Events.{start, AllEnabled, played}
use Rattle.pk_peak.specs.Peak.{item_of, peak_of}
use Rattle.pk_release.specs.Kept.{was_run, is_over, kept_points}

-- in which item of an order an element stands
abbrev pub item_in : Level → ℕ → ℕ
item_in order e = item_of (items_of order) e

-- where an element was run, all earlier items are over
abbrev pub IsInOrder : {C : Type 0} → PlanView → Level → State C → Type 0
IsInOrder p order s =
    (e u : ℕ) → e < p.elements → u < p.elements → was_run s e ≡ true → item_in order u < item_in order e
    → is_over p s u ≡ true

-- the state after the first so many events
abbrev pub state_after : {C : Type 0} → Behaviour C → PlanView → List Event → ℕ → State C
state_after b p events k = played b (shape_of p) (start (shape_of p)) (take k events)

-- A list of events from the start to the end that goes through the items of the order one after another, and never keeps more points
-- than the peak.
pub record Line {C : Type 0} (b : Behaviour C) (p : PlanView) (order : Level) : Type 0 where
  pub events : List Event
  pub enabled : AllEnabled b (shape_of p) (start (shape_of p)) events
  pub done : (played b (shape_of p) (start (shape_of p)) events (end_of p)).status ≡ Done
  pub in_order : (k : ℕ) → IsInOrder p order (state_after b p events k)
  pub within_peak : (k : ℕ) → kept_points p (state_after b p events k) ≤ peak_of p order
