-- The result of an analysis, point by point.
use Rattle.std.specs.Prelude.{ℕ, ◌<◌, ◌^◌, map, slice_index_or, Option, None}
use Rattle.pk_graph.specs.Graphs.{GraphOf}
use Rattle.pk_graph.specs.WellMade.{IsGraph}
use Rattle.pk_state.specs.Facts.{Facts, Stated}
use Rattle.pk_plan.specs.Order.{Level}
use Rattle.pk_plan.specs.Plans.{PlanView}
use Rattle.pk_order.specs.Ordered.{IsOrdered}
use Rattle.pk_iterate.specs.Outcome.{Outcome}
use Rattle.pk_iterate.specs.Answer.{IsResult}
use Rattle.pk_phases.specs.declared.equations.Cell.{Cell}
use Rattle.pk_phases.specs.declared.equations.Cell.TheVariants.{Value}
use Rattle.pk_phases.specs.Equations.{value_of, behaviour_of}
use Rattle.pk_analysis.specs.declared.analysis.Options.{Options}
use Rattle.pk_analysis.specs.Arrows.{arrows_at, origins}
use Rattle.pk_analysis.specs.Digraphs.{digraph_of}
use Rattle.pk_analysis.specs.Flows.{Flow, stated, equation, equations_of, reduced_cell}
use Rattle.pk_analysis.specs.Made.{IsAnalysisOf}

-- The analysis of a graph by the plan of its digraph, iterated in the plan's linear order. That an octagon's variables are counted in 31 bits is what the analysis asks when it is made.
pub record IsAnalysed (g : GraphOf) (o : Options) (p : PlanView) (order : Level) (a : Flow) (most : ℕ)
    (it : Outcome (Cell Stated)) : Type 0 where
  pub graph : IsGraph g
  pub oct : o.oct < 2 ^ 31
  pub analysis : IsAnalysisOf g p o a
  pub ordered : IsOrdered (digraph_of g) p order
  pub result : IsResult (behaviour_of (equations_of a)) order p.elements most it

-- the cell of an element; nothing is known past the elements
abbrev pub cell_at : Flow → Outcome (Cell Stated) → ℕ → Cell Stated
cell_at a it e = slice_index_or it.cells e (Value (stated a.layout None))

-- what the result knows at a point, and what that is once it is reduced
abbrev pub known_at_point : Flow → Outcome (Cell Stated) → ℕ → Option Facts
known_at_point a it v = (value_of (stated a.layout None) (cell_at a it v)).facts

abbrev pub reduced_at_point : Flow → Outcome (Cell Stated) → ℕ → Option Facts
reduced_at_point a it v = (reduced_cell a (cell_at a it v)).facts

-- what the point's equation gives on the result
abbrev pub given_at_point : GraphOf → Flow → Outcome (Cell Stated) → ℕ → Option Facts
given_at_point g a it v = equation g a.layout v (map (known_at_point a it) (origins (arrows_at g v)))
