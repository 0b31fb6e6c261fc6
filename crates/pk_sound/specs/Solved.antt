-- The result is a post-fixpoint of the point equations (Cousot and Cousot 1977).
use Rattle.std.specs.Prelude.{ℕ, ◌<◌, length}
use Rattle.pk_graph.specs.Graphs.{GraphOf}
use Rattle.pk_state.specs.Facts.{Stated, AreFactsIf, IsBelow}
use Rattle.pk_plan.specs.Order.{Level}
use Rattle.pk_plan.specs.Plans.{PlanView}
use Rattle.pk_iterate.specs.Outcome.{Outcome}
use Rattle.pk_phases.specs.declared.equations.Cell.{Cell}
use Rattle.pk_analysis.specs.declared.analysis.Options.{Options}
use Rattle.pk_analysis.specs.Flows.{Flow}
use Rattle.pk_sound.specs.Results.{IsAnalysed, known_at_point, given_at_point}

-- at a point: both are facts of the layout, and what the equation gives is within what the result knows
pub record IsSolvedAt (g : GraphOf) (a : Flow) (it : Outcome (Cell Stated)) (v : ℕ) : Type 0 where
  pub given : AreFactsIf a.layout (given_at_point g a it v)
  pub known : AreFactsIf a.layout (known_at_point a it v)
  pub below : IsBelow (given_at_point g a it v) (known_at_point a it v)

abbrev pub ResultIsSolved : Type 0
ResultIsSolved =
    (g : GraphOf) (o : Options) (p : PlanView) (order : Level) (a : Flow) (most : ℕ) (it : Outcome (Cell Stated)) →
    IsAnalysed g o p order a most it → (v : ℕ) → v < length g.points → IsSolvedAt g a it v
