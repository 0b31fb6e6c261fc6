-- What a board asks, met by a plan with a component in a component.
use Rattle.std.specs.Prelude.{ℕ, ◌≤◌}
use Rattle.pk_core.specs.Nested.{nested_plan, nested_system}
use Rattle.pk_iterate.specs.Fits.{FitsPlan}
use Rattle.pk_layout.specs.Layouts.{LayoutView}
use Rattle.pk_layout.specs.Wirings.{IsWired}
use Rattle.pk_words.specs.Reads.{HasEnd}

-- A board of this plan can be started with any limit that `start` takes, and its slots are laid out.
pub record NestedMeetsBoard : Type 0 where
  pub fits : FitsPlan nested_system nested_plan
  pub ends : HasEnd nested_system nested_plan
  pub few : nested_plan.elements ≤ 131073
  pub wired : (limit : ℕ) → limit ≤ 549755813888
      → (l : LayoutView) × IsWired nested_system (record { plan = nested_plan; limit = limit; layout = l })
