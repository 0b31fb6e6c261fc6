-- What every list of events leads to, however it was chosen.
use Rattle.std.specs.Prelude.{◌≡◌, ◌≢◌, ℕ, ◌+◌, ◌<◌, ◌≤◌, List, [], ◌∷◌, length, Contains, if◌then◌else◌, Bool, true, false}
use Rattle.pk_plan.specs.Order.{Level}
use Rattle.pk_plan.specs.Plans.{PlanView, end_of}
use Rattle.pk_plan.specs.Axioms.{Axioms}
use Rattle.pk_plan.specs.Shape.{shape_of}
use Rattle.pk_iterate.specs.Behaviour.{Behaviour}
use Rattle.pk_iterate.specs.Runs.{run_value, values_read}
use Rattle.pk_iterate.specs.Ending.{Ends, trace, result_cell, result_count}
use Rattle.pk_core.specs.declared.events.Status.TheVariants.{Held, Done}
use Rattle.pk_core.specs.declared.events.Event.{Event}
use Rattle.pk_core.specs.declared.events.Event.TheVariants.{Offer, Claim, Finish, Send, Stable, Again}
use Rattle.pk_core.specs.States.{State, cell_in, inputs_of, run_number}
use Rattle.pk_core.specs.Events.{start, Enabled, AllEnabled, played}
use Rattle.pk_core.specs.Orders.{IsOrderOf}
use Rattle.pk_iterate.specs.Fits.{FitsPlan}

-- how many events of a list are runs
abbrev pub is_run : Event → Bool
is_run (Offer e) = false
is_run (Claim e) = false
is_run (Finish e) = true
is_run (Send u v) = false
is_run (Stable x) = true
is_run (Again x) = true

abbrev pub runs_in : List Event → ℕ
runs_in [] = 0
runs_in (event ∷ events) = (if is_run event then 1 else 0) + runs_in events

abbrev pub IsOffer : Event → Type 0
IsOffer (Offer e) = Unit {0}
IsOffer (Claim e) = ⊥
IsOffer (Finish e) = ⊥
IsOffer (Send u v) = ⊥
IsOffer (Stable x) = ⊥
IsOffer (Again x) = ⊥

-- an element at the end
pub record IsOver {C : Type 0} (b : Behaviour C) {order : Level} (ends : Ends b order) (s : State C)
    (e : ℕ) : Type 0 where
  pub cell : cell_in b s e ≡ result_cell ends e
  pub run : run_number (s e) ≡ result_count ends e
  pub status : (s e).status ≡ Done
  pub sends : (s e).sends ≡ []

-- A state against the recursion over an order.
pub record KeepsTo {C : Type 0} (b : Behaviour C) (p : PlanView) {order : Level} (ends : Ends b order)
    (s : State C) : Type 0 where
  -- an element's cell is that of the recursion's run with its run number, which is at most the recursion's count, and below it where the element isn't done
  pub cells : (e : ℕ) → cell_in b s e ≡ run_value b (trace ends) e (run_number (s e))
  pub bounded : (e : ℕ) → run_number (s e) ≤ result_count ends e
  pub fewer : (e : ℕ) → e < p.elements → (s e).status ≢ Done → run_number (s e) < result_count ends e
  -- what a held element reads is what its next run reads in the recursion
  pub reads : (e : ℕ) → e < p.elements → (s e).status ≡ Held
      → inputs_of b s e ≡ values_read b (trace ends) e (run_number (s e) + 1)
  -- no element is held while another one that it reads is held
  pub apart : (e u : ℕ) → e < p.elements → Contains (b.reads e) u → u ≢ e
      → (s e).status ≡ Held → (s u).status ≡ Held → ⊥
  -- until END is done, some event that is no offer is enabled
  pub goes_on : (s (end_of p)).status ≢ Done → (event : Event) × Enabled b (shape_of p) s event × (IsOffer event → ⊥)
  -- once END is done, each element has the cell and the count that the recursion leaves, and has no send left
  pub over : (s (end_of p)).status ≡ Done → (e : ℕ) → e < p.elements → IsOver b ends s e

-- For every plan, every order of it in which the recursion ends, and every system that fits the plan: each state that a list of events
-- reaches keeps to the recursion, and no more runs are made than the recursion makes.
pub record EveryListKeeps {C : Type 0} (b : Behaviour C) : Type 0 where
  pub keeps : (p : PlanView) (order : Level) (ends : Ends b order) (events : List Event) → Axioms p
      → IsOrderOf (shape_of p) order → FitsPlan b p
      → AllEnabled b (shape_of p) (start (shape_of p)) events
      → KeepsTo b p ends (played b (shape_of p) (start (shape_of p)) events)
  pub runs : (p : PlanView) (order : Level) (ends : Ends b order) (events : List Event) → Axioms p
      → IsOrderOf (shape_of p) order → FitsPlan b p
      → AllEnabled b (shape_of p) (start (shape_of p)) events → runs_in events ≤ length (trace ends)
