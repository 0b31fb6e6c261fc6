-- Every nest has a plan.
use Rattle.std.specs.Prelude.{ℕ, ◌<◌, ◌^◌, List, length}
use Rattle.pk_plan.specs.Digraphs.{IsVertex, IsClosed}
use Rattle.pk_plan.specs.Nests.{Items, IsNest}
use Rattle.pk_plan.specs.Plans.{PlanView}
use Rattle.pk_plan.specs.Axioms.{Axioms}
use Rattle.pk_wpo.specs.Made.{IsPlanOf}

-- of each closed digraph with fewer than 2^31 vertices
abbrev pub EveryNestHasAPlan : Type 0
EveryNestHasAPlan =
    (g : List (List ℕ)) (items : Items) → IsClosed g → length g < 2 ^ 31 → IsNest g (IsVertex g) items →
    (p : PlanView) × Axioms p × IsPlanOf g items p
