-- Facts over a graph's points that solve its equations (Cousot and Cousot 1977), wherever they come from.
use Rattle.std.specs.Prelude.{◌≡◌, ℕ, ◌<◌, true, false, map, length, Option}
use Rattle.pk_graph.specs.Graphs.{GraphOf, kinds_of}
use Rattle.pk_graph.specs.WellMade.{IsGraph}
use Rattle.pk_state.specs.Layouts.{Layout, IsLayout}
use Rattle.pk_state.specs.Facts.{Facts, Stated, AreFactsIf, IsBelow}
use Rattle.pk_transfer.specs.Trees.{IsOver}
use Rattle.pk_plan.specs.Order.{Level}
use Rattle.pk_plan.specs.Plans.{PlanView}
use Rattle.pk_iterate.specs.Outcome.{Outcome}
use Rattle.pk_phases.specs.declared.equations.Cell.{Cell}
use Rattle.pk_analysis.specs.declared.analysis.Options.{Options}
use Rattle.pk_analysis.specs.Arrows.{arrows_at, origins}
use Rattle.pk_analysis.specs.Flows.{Flow, equation}
use Rattle.pk_analysis.specs.Orders.{is_below}
use Rattle.pk_sound.specs.Results.{IsAnalysed, known_at_point}

-- what a point's equation gives on a family
abbrev pub given_on : GraphOf → Layout → (ℕ → Option Facts) → ℕ → Option Facts
given_on g l known v = equation g l v (map known (origins (arrows_at g v)))

-- a graph, and a layout over its variables
pub record IsLaidOut (g : GraphOf) (l : Layout) : Type 0 where
  pub graph : IsGraph g
  pub layout : IsLayout l
  pub over : IsOver (kinds_of g) l

abbrev pub AreFactsOf : GraphOf → Layout → (ℕ → Option Facts) → Type 0
AreFactsOf g l known = (v : ℕ) → v < length g.points → AreFactsIf l (known v)

-- At each point the family has facts of the layout, and what the equation gives on it, the start state at point 0 included, is within them.
pub record IsSolved (g : GraphOf) (l : Layout) (known : ℕ → Option Facts) : Type 0 where
  pub facts : AreFactsOf g l known
  pub below : (v : ℕ) → v < length g.points → IsBelow (given_on g l known v) (known v)

-- the test of the order passes at a point
abbrev pub PassesAt : GraphOf → Layout → (ℕ → Option Facts) → ℕ → Type 0
PassesAt g l known v = is_below (given_on g l known v) (known v) ≡ true

-- it doesn't there, and does at each point before
pub record FailsFirstAt (g : GraphOf) (l : Layout) (known : ℕ → Option Facts) (v : ℕ) : Type 0 where
  pub point : v < length g.points
  pub fails : is_below (given_on g l known v) (known v) ≡ false
  pub before : (u : ℕ) → u < v → PassesAt g l known u

pub record IsTested (g : GraphOf) (l : Layout) (known : ℕ → Option Facts) : Type 0 where
  pub solved : ((v : ℕ) → v < length g.points → PassesAt g l known v) → IsSolved g l known
  pub passes : IsSolved g l known → (v : ℕ) → v < length g.points → PassesAt g l known v

-- Where a family has facts of the layout, it is solved exactly if the test passes at each point.
abbrev pub FamiliesAreTested : Type 0
FamiliesAreTested =
    (g : GraphOf) (l : Layout) (known : ℕ → Option Facts) → IsLaidOut g l → AreFactsOf g l known → IsTested g l known

-- the result of an analysis is such a family
pub record IsFamilyOf (g : GraphOf) (a : Flow) (it : Outcome (Cell Stated)) : Type 0 where
  pub laid_out : IsLaidOut g a.layout
  pub solved : IsSolved g a.layout (known_at_point a it)

abbrev pub ResultsAreFamilies : Type 0
ResultsAreFamilies =
    (g : GraphOf) (o : Options) (p : PlanView) (order : Level) (a : Flow) (most : ℕ) (it : Outcome (Cell Stated)) →
    IsAnalysed g o p order a most it → IsFamilyOf g a it
