-- What a run reads, and what the recursion leaves.
use Rattle.std.specs.Prelude.{◌≡◌, ℕ, ◌+◌, ◌/◌, ◌<◌, ◌≤◌, List, slice_get, Some}
use mathlib.Core.Option.{some}
use lib.ListN.{get_elem?}
use Rattle.pk_plan.specs.Order.{Level}
use Rattle.pk_plan.specs.Plans.{PlanView}
use Rattle.pk_plan.specs.Shape.{shape_of}
use Rattle.pk_iterate.specs.Behaviour.{Behaviour}
use Rattle.pk_iterate.specs.Runs.{values_read}
use Rattle.pk_iterate.specs.Ending.{Ends, trace, result_cell, result_count}
use Rattle.pk_core.specs.Orders.{IsOrderOf}
use Rattle.pk_layout.specs.Layouts.{first_of}
use Rattle.pk_layout.specs.Wirings.{Wiring}

-- the plan has an order over which the recursion ends
abbrev pub HasEnd : {C : Type 0} → Behaviour C → PlanView → Type 0
HasEnd b p = (order : Level) × Ends b order × IsOrderOf (shape_of p) order

-- the k-th run of e reads this cell at a place
abbrev pub IsReadAt : {C : Type 0} → Behaviour C → PlanView → (e k place : ℕ) → C → Type 0
IsReadAt b p e k place c = (order : Level) (ends : Ends b order) → IsOrderOf (shape_of p) order
    → slice_get (values_read b (trace ends) e k) place ≡ Some c

-- So many runs are within the limit, and the recursion runs the element more often.
abbrev pub Counts : {C : Type 0} → Behaviour C → Wiring → (e run : ℕ) → Type 0
Counts b w e run = (run ≤ w.limit)
    × ((order : Level) (ends : Ends b order) → IsOrderOf (shape_of w.plan) order → run < result_count ends e)

-- An element's first slot has the cell that the recursion leaves, and its word how often it ran, which is no more than the limit.
pub record IsResult {C S : Type 0} (b : Behaviour C) (w : Wiring) (value : S → C → Type 0)
    (words : List ℕ) (slots : List S) {order : Level} (ends : Ends b order) (e : ℕ) : Type 0 where
  pub cell : (x : S) → get_elem? slots (first_of w.layout e) ≡ some x → value x (result_cell ends e)
  pub run : (n : ℕ) → get_elem? words (e + 2) ≡ some n → n / 1048576 ≡ result_count ends e
  pub within : result_count ends e ≤ w.limit

-- so for each element
abbrev pub AreResult : {C S : Type 0} → Behaviour C → Wiring → (S → C → Type 0) → List ℕ → List S → Type 0
AreResult b w value words slots = (order : Level) (ends : Ends b order) → IsOrderOf (shape_of w.plan) order → (e : ℕ)
    → e < w.plan.elements → IsResult b w value words slots ends e
