-- Equations over a plan.
use Rattle.std.specs.Prelude.{◌≡◌, ℕ, Contains}
use Rattle.pk_plan.specs.declared.components.Component.{Component}
use Rattle.pk_plan.specs.Order.{Level}
use Rattle.pk_plan.specs.Plans.{PlanView}
use Rattle.pk_plan.specs.Linear.{IsLinear}
use Rattle.pk_iterate.specs.BoundedTurns.{EndsWithin}
use Rattle.pk_phases.specs.declared.equations.Part.TheVariants.{HeadOf, ExitOf}
use Rattle.pk_phases.specs.Values.{IsRank}
use Rattle.pk_phases.specs.Turns.{turn_bound}
use Rattle.pk_phases.specs.Equations.{Equations, behaviour_of, ReadsPoints}

-- the heads and exits are those of the plan's components
abbrev pub PartsAreOfPlan : {V : Type 0} → Equations V → PlanView → Type 0
PartsAreOfPlan q p =
    (c : Component) → Contains p.components c → (q.part c.head ≡ HeadOf c.exit) × (q.part c.exit ≡ ExitOf c.head)

-- In the plan's linear order the recursion ends, and each entry of a component runs its head only so often.
abbrev pub LinearOrderEnds : {V : Type 0} → Equations V → (ℕ → V → Type 0) → Type 0
LinearOrderEnds {V} q held =
    (p : PlanView) (order : Level) (rank : V → ℕ) (chain : ℕ) → IsLinear p order → PartsAreOfPlan q p → ReadsPoints q
    → ((c : Component) → Contains p.components c → IsRank q.ops (held c.head) chain rank)
    → EndsWithin (behaviour_of q) order (turn_bound chain q.narrow q.delay)
