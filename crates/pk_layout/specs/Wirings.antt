-- What a board is about: a plan, the limit of runs, and the slots.
use Rattle.std.specs.Prelude.{ℕ, ◌^◌, ◌<◌}
use Rattle.pk_plan.specs.Plans.{PlanView}
use Rattle.pk_plan.specs.Axioms.{Axioms}
use Rattle.pk_iterate.specs.Behaviour.{Behaviour}
use Rattle.pk_iterate.specs.Fits.{FitsPlan}
use Rattle.pk_layout.specs.Layouts.{LayoutView, IsLaidOut}

pub record Wiring : Type 0 where
  pub plan : PlanView
  -- no element runs more often than so
  pub limit : ℕ
  pub layout : LayoutView

-- What the rule of a board asks: a plan that the system fits, and slots for it. Counts of predecessors and run numbers fit their parts of a word.
pub record IsWired {C : Type 0} (b : Behaviour C) (w : Wiring) : Type 0 where
  pub axioms : Axioms w.plan
  pub fits : FitsPlan b w.plan
  pub few : w.plan.elements < 131074
  pub limited : w.limit < 2 ^ 40
  pub laid_out : IsLaidOut b w.plan.elements w.layout
