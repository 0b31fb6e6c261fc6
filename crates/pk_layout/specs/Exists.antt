-- Every plan and system that fits it can be wired.
use Rattle.std.specs.Prelude.{ℕ, ◌^◌, ◌<◌}
use Rattle.pk_plan.specs.Plans.{PlanView}
use Rattle.pk_plan.specs.Axioms.{Axioms}
use Rattle.pk_iterate.specs.Behaviour.{Behaviour, ReadsWithin}
use Rattle.pk_iterate.specs.Fits.{FitsPlan}
use Rattle.pk_layout.specs.Layouts.{LayoutView}
use Rattle.pk_layout.specs.Wirings.{IsWired}

-- what a system that fits a plan reads are elements of it
abbrev pub FitsReadWithin : {C : Type 0} → Behaviour C → Type 0
FitsReadWithin b = (p : PlanView) → Axioms p → FitsPlan b p → ReadsWithin b p.elements

-- there are slots for every plan that the system fits, and for every limit
abbrev pub EveryPlanIsWired : {C : Type 0} → Behaviour C → Type 0
EveryPlanIsWired b =
    (p : PlanView) (limit : ℕ) → Axioms p → FitsPlan b p → p.elements < 131074 → limit < 2 ^ 40
    → (l : LayoutView) × IsWired b (record { plan = p; limit = limit; layout = l })
