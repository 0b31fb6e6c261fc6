-- What is read of a certificate may be checked, with an answer, and what an analysis leaves checks well.
use Rattle.std.specs.Prelude.{◌≡◌, ℕ, false, List, map, length, Option, None}
use Rattle.pk_graph.specs.Graphs.{GraphOf}
use Rattle.pk_graph.specs.WellMade.{IsGraph}
use Rattle.pk_state.specs.Facts.{Facts, Stated}
use Rattle.pk_transfer.specs.Graphs.{layout_of}
use Rattle.pk_plan.specs.Order.{Level}
use Rattle.pk_plan.specs.Plans.{PlanView}
use Rattle.pk_iterate.specs.Outcome.{Outcome}
use Rattle.pk_phases.specs.declared.equations.Cell.{Cell}
use Rattle.pk_analysis.specs.declared.analysis.Options.{Options}
use Rattle.pk_analysis.specs.Flows.{Flow}
use Rattle.pk_sound.specs.Results.{IsAnalysed}
use Rattle.pk_cert.specs.Heads.{HeadOf, IsHead}
use Rattle.pk_cert_cells.specs.Cells.{facts_in}
use Rattle.pk_cert_cells.specs.Reading.{cell_of, AreReadCells}
use Rattle.pk_cert_cells.specs.Laws.{ArePointFacts}
use Rattle.pk_cert_check.specs.Checked.{HoldStates, IsChecked}

-- The cells that are read of a certificate are such as a check asks for.
abbrev pub ReadCellsHoldStates : Type 0
ReadCellsHoldStates =
    (g : GraphOf) (h : HeadOf) (bytes : List ℕ) (cells : List (Cell Stated)) → AreReadCells g h bytes cells →
    HoldStates (layout_of g h.oct) (length g.points) cells

-- They solve the equations of the graph's points, or there is a first point at which they don't.
abbrev pub ReadCellsAreChecked : Type 0
ReadCellsAreChecked =
    (g : GraphOf) (h : HeadOf) (bytes : List ℕ) (cells : List (Cell Stated)) → IsGraph g → IsHead h →
    AreReadCells g h bytes cells
    → (o : Option ℕ) × IsChecked g (layout_of g h.oct) cells o

-- These are facts for each point of the graph, and as cells they solve its equations.
pub record ChecksWell (g : GraphOf) (oct : ℕ) (known : List (Option Facts)) : Type 0 where
  pub facts : ArePointFacts g oct known
  pub solved : IsChecked g (layout_of g oct) (map (cell_of (layout_of g oct)) known) None

-- What an analysis of a graph leaves at its points, with one octagon, checks well.
abbrev pub ResultsCheckWell : Type 0
ResultsCheckWell =
    (g : GraphOf) (o : Options) (p : PlanView) (order : Level) (a : Flow) (most : ℕ) (it : Outcome (Cell Stated)) →
    IsAnalysed g o p order a most it → o.packs ≡ false
    → ChecksWell g o.oct (facts_in (layout_of g o.oct) (length g.points) it.cells)
