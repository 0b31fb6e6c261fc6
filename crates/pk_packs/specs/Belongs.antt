-- Which edges belong to which pack.
use Rattle.std.specs.Prelude.{ℕ, zero, suc, Bool, not, ◌&&◌, slice_index_or}
use Rattle.std.specs.List.{list_any}
use Rattle.pk_graph.specs.Graphs.{EdgeOf}
use Rattle.pk_plan.specs.declared.components.Component.{Component}
use Rattle.pk_plan.specs.Plans.{PlanView, is_inside}

-- both ends of an edge lie in a component
abbrev pub lies_in : PlanView → Component → (from : ℕ) → EdgeOf → Bool
lies_in p c from e = is_inside p c from && is_inside p c e.to

abbrev pub lies_in_none : PlanView → (from : ℕ) → EdgeOf → Bool
lies_in_none p from e = not (list_any (λ (c : Component). lies_in p c from e) p.components)

-- a component that holds nothing
abbrev pub no_component : Component
no_component = record { head = 0; exit = 0; first = 0; end = 0 }

-- Pack 0 has the edges that lie in no component, and pack k + 1 those that lie in component k. So an edge that enters or leaves a component belongs to pack 0, or to the packs of the components that hold both its ends.
abbrev pub belongs : PlanView → (pack : ℕ) → (from : ℕ) → EdgeOf → Bool
belongs p zero from e = lies_in_none p from e
belongs p (suc k) from e = lies_in p (slice_index_or p.components k no_component) from e
