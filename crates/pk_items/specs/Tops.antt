-- The last elements of items, as a list.
use Rattle.std.specs.Prelude.{◌≡◌, ℕ, ◌<◌, ◌≤◌, ◌⊎◌, List, length, slice_index, Contains}
use Rattle.pk_plan.specs.declared.components.Component.{Component}
use Rattle.pk_plan.specs.Plans.{PlanView}
use Rattle.pk_items.specs.Items.{top_of}

-- the last element of each element's item
pub record AreTops (p : PlanView) (tops : List ℕ) : Type 0 where
  pub long : length tops ≡ p.elements
  pub each : (e : ℕ) → e < p.elements → slice_index tops e ≡ top_of p e

-- a component begins at this place, and ends at that one
pub record Stretches (p : PlanView) (from to : ℕ) : Type 0 where
  pub component : Component
  pub of : Contains p.components component
  pub first : component.first ≡ from
  pub end : component.end ≡ to

-- for each place of the listing the last end of the components that begin there, or 0
pub record AreEnds (p : PlanView) (ends : List ℕ) : Type 0 where
  pub long : length ends ≡ p.elements
  pub last : (c : Component) → Contains p.components c → c.end ≤ slice_index ends c.first
  pub some : (at : ℕ) → at < p.elements → (slice_index ends at ≡ 0) ⊎ Stretches p at (slice_index ends at)
