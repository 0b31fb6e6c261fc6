-- How many points are kept, and that a list of events reaches it.
use Rattle.std.specs.Prelude.{◌≡◌, ℕ, List, ◌<◌, ◌≤◌, ◌↔◌, ◌⊎◌, true, Contains}
use Rattle.pk_plan.specs.Digraphs.{Edge, IsClosed}
use Rattle.pk_plan.specs.Order.{Level}
use Rattle.pk_plan.specs.Plans.{PlanView, end_of}
use Rattle.pk_plan.specs.Axioms.{Axioms}
use Rattle.pk_plan.specs.Linear.{IsLinear}
use Rattle.pk_plan.specs.Shape.{shape_of}
use Rattle.pk_iterate.specs.Behaviour.{Behaviour}
use Rattle.pk_iterate.specs.Ending.{Ends}
use Rattle.pk_iterate.specs.Fits.{FitsPlan}
use Rattle.pk_core.specs.Orders.{IsOrderOf}
use Rattle.pk_core.specs.States.{State}
use Rattle.pk_order.specs.Ordered.{IsPlanned}
use Rattle.pk_peak.specs.Peak.{leads_from, peak_of}
use Rattle.pk_items.specs.Items.{top_of}
use Rattle.pk_release.specs.Kept.{kept_points, cells_left}
use Rattle.pk_release.specs.In_order.{item_in, IsInOrder, Line}

-- the items of the linear order are those of the plan: two elements stand in one item where they have one last element
abbrev pub ItemsAreTops : Type 0
ItemsAreTops =
    (p : PlanView) (order : Level) → Axioms p → IsLinear p order → (a b : ℕ) → a < p.elements → b < p.elements
    → (item_in order a ≡ item_in order b) ↔ (top_of p a ≡ top_of p b)

-- in whatever state, where an element was run only once all earlier items were over, no more points are kept than the peak
abbrev pub KeepsWithinPeak : Type 0 → Type 0
KeepsWithinPeak C =
    (p : PlanView) (order : Level) (s : State C) → Axioms p → IsLinear p order → IsInOrder p order s
    → kept_points p s ≤ peak_of p order

-- for every plan, its linear order, and a system that fits it and whose recursion over the order ends, there is such a list of events
abbrev pub EveryPlanHasALine : {C : Type 0} → Behaviour C → Type 0
EveryPlanHasALine b =
    (p : PlanView) (order : Level) → Axioms p → IsLinear p order → IsOrderOf (shape_of p) order → FitsPlan b p
    → Ends b order → Line b p order

-- whatever an element reads lies in its item, or in one from which a constraint leads into it
abbrev pub ReadsItems : {C : Type 0} → Behaviour C → PlanView → Type 0
ReadsItems b p =
    (e u : ℕ) → e < p.elements → Contains (b.reads e) u
    → (top_of p u ≡ top_of p e)
    ⊎ ((v : ℕ) × (v < end_of p) × (top_of p v ≡ top_of p e) × (leads_from p (top_of p) (top_of p u) v ≡ true))

-- of such a system no more cells are left than points are kept
abbrev pub CellsAreKept : {C : Type 0} → Behaviour C → Type 0
CellsAreKept {C} b = (p : PlanView) (s : State C) → ReadsItems b p → cells_left b p s ≤ kept_points p s

-- in the plan of a digraph's nest the source of an edge lies in its target's item, or a constraint leads from its item to the target
abbrev pub EdgesLeadFromItems : Type 0
EdgesLeadFromItems =
    (g : List (List ℕ)) (plan : PlanView) → IsClosed g → IsPlanned g plan → (u v : ℕ) → Edge g u v
    → (v < end_of plan) × ((top_of plan u ≡ top_of plan v) ⊎ (leads_from plan (top_of plan) (top_of plan u) v ≡ true))
