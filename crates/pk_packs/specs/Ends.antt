-- How far components reach.
use Rattle.std.specs.Prelude.{◌≡◌, ℕ, ◌<◌, ◌≤◌, List, length, slice_index, Contains}
use Rattle.pk_plan.specs.declared.components.Component.{Component}
use Rattle.pk_plan.specs.Plans.{PlanView}

-- 0, or the end of one of these components that begins at a place or before
abbrev pub IsEndOfOne : PlanView → (at end : ℕ) → Type 0
IsEndOfOne p at end = 0 < end → (c : Component) × Contains p.components c × (c.first ≤ at) × (c.end ≡ end)

-- for each place of a plan's listing the furthest end of the components that begin there
pub record AreOwnEnds (p : PlanView) (ends : List ℕ) : Type 0 where
  pub size : length ends ≡ p.elements
  pub reached : (c : Component) → Contains p.components c → c.end ≤ slice_index ends c.first
  pub only : (at : ℕ) → IsEndOfOne p at (slice_index ends at)

-- and of those that begin there or before: so two places lie in one component where the later one is before this end of the earlier one
pub record AreEnds (p : PlanView) (ends : List ℕ) : Type 0 where
  pub size : length ends ≡ p.elements
  pub reached : (at : ℕ) (c : Component) → at < p.elements → Contains p.components c → c.first ≤ at →
      c.end ≤ slice_index ends at
  pub only : (at : ℕ) → IsEndOfOne p at (slice_index ends at)
