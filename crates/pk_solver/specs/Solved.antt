-- What is known at the points of a graph: the result of Bourdoncle's recursive iteration over the order of its points.
use Rattle.std.specs.Prelude.{◌≡◌, ℕ, ◌≤◌, List, length, map, take, All, None}
use Rattle.pk_graph.specs.Graphs.{GraphOf, kinds_of}
use Rattle.pk_graph.specs.Shown.{graph_view}
use Rattle.pk_state.specs.Layouts.{Layout}
use Rattle.pk_state.specs.Facts.{Stated}
use Rattle.pk_transfer.specs.Trees as trees
use Rattle.pk_plan.specs.Order.{Level}
use Rattle.pk_plan.specs.Plans.{PlanView}
use Rattle.pk_order.specs.Ordered.{heads_of}
use Rattle.pk_iterate.specs.Answer.{IsResult}
use Rattle.pk_iterate.specs.Outcome.{Outcome}
use Rattle.pk_phases.specs.declared.equations.Cell.{Cell}
use Rattle.pk_phases.specs.Equations.{behaviour_of, value_of}
use Rattle.pk_analysis.specs.declared.analysis.Options.{Options}
use Rattle.pk_analysis.specs.Flows.{Flow, equations_of, reduced_cell, reduced_over, stated}
use Rattle.pk_analysis.specs.Layouts.{layout_for}
use Rattle.pk_analysis_laws.specs.Systems.{HasManyPacks, IsOver, IsSystem}
use Rattle.pk_solver.specs.declared.solving.SolverError.{SolverError}
use Rattle.pk_solver.specs.declared.solving.SolverError.TheVariants.{RunLimit, PackLimit, Memory}

-- what the recursive iteration of these equations over the order of their plan ends with
pub record IsOutcomeOf (o : Options) (p : PlanView) (a : Flow) (most : ℕ) (it : Outcome (Cell Stated)) : Type 0 where
  pub order : Level
  pub system : IsSystem (graph_view a.graph) o p order a
  pub result : IsResult (behaviour_of (equations_of a)) order p.elements most it

-- the recursive iteration's result at each element, the points before all others; none is reduced
pub record AreRawCells (g : GraphOf) (o : Options) (most : ℕ) (cells : List (Cell Stated)) : Type 0 where
  pub plan : PlanView
  pub order : Level
  pub flow : Flow
  pub system : IsSystem g o plan order flow
  pub outcome : Outcome (Cell Stated)
  pub result : IsResult (behaviour_of (equations_of flow)) order plan.elements most outcome
  pub cells_are : cells ≡ outcome.cells

-- There is a cell for each point, and each cell's state has this layout. One that holds a phase has no state, and counts as that of a point where no run comes.
pub record AreCellsOver (g : GraphOf) (l : Layout) (cells : List (Cell Stated)) : Type 0 where
  pub enough : length g.points ≤ length cells
  pub over : All (λ (c : Cell Stated). (value_of (stated l None) c).layout ≡ l) cells

-- the recursive iteration's result at each point, reduced
pub record AreStates (g : GraphOf) (o : Options) (most : ℕ) (p : PlanView) (states : List Stated) : Type 0 where
  pub order : Level
  pub flow : Flow
  pub system : IsSystem g o p order flow
  pub outcome : Outcome (Cell Stated)
  pub result : IsResult (behaviour_of (equations_of flow)) order p.elements most outcome
  pub reduced : states ≡ map (reduced_cell flow) (take (length g.points) outcome.cells)

-- one for each point, over the graph's variables
pub record AreOver (g : GraphOf) (states : List Stated) : Type 0 where
  pub size : length states ≡ length g.points
  pub each : All (λ (s : Stated). trees.IsOver (kinds_of g) s.layout) states

-- why there are neither cells nor states
abbrev pub IsCause : GraphOf → Options → (most : ℕ) → SolverError → Type 0
IsCause g o most RunLimit = IsOver g o most
IsCause g o most PackLimit = HasManyPacks g o
IsCause g o most Memory = Unit {0}

-- A graph has one plan's heads and elements and one list of states, or some element is run too often, or there would be too many packs, and no two of these.
pub record StatesAreDetermined : Type 0 where
  pub heads : (g : GraphOf) (o : Options) (most : ℕ) (p q : PlanView) (s t : List Stated) →
      AreStates g o most p s → AreStates g o most q t → heads_of p ≡ heads_of q
  pub elements : (g : GraphOf) (o : Options) (most : ℕ) (p q : PlanView) (s t : List Stated) →
      AreStates g o most p s → AreStates g o most q t → p.elements ≡ q.elements
  pub states : (g : GraphOf) (o : Options) (most : ℕ) (p q : PlanView) (s t : List Stated) →
      AreStates g o most p s → AreStates g o most q t → s ≡ t
  pub within : (g : GraphOf) (o : Options) (most : ℕ) (p : PlanView) (states : List Stated) →
      AreStates g o most p states → IsOver g o most → ⊥
  pub few_packs : (g : GraphOf) (o : Options) (most : ℕ) (p : PlanView) (states : List Stated) →
      AreStates g o most p states → HasManyPacks g o → ⊥
  pub one_limit : (g : GraphOf) (o : Options) (most : ℕ) → IsOver g o most → HasManyPacks g o → ⊥

-- A graph has one list of raw cells, and its states are those of the points, reduced; or some element is run too often, or there would be too many packs, and no two of these.
pub record RawCellsAreDetermined : Type 0 where
  pub cells : (g : GraphOf) (o : Options) (most : ℕ) (a b : List (Cell Stated)) →
      AreRawCells g o most a → AreRawCells g o most b → a ≡ b
  pub states : (g : GraphOf) (o : Options) (most : ℕ) (p : PlanView) (cells : List (Cell Stated))
      (states : List Stated) → AreRawCells g o most cells → AreStates g o most p states
      → states ≡ map (reduced_over (layout_for g p o)) (take (length g.points) cells)
  pub within : (g : GraphOf) (o : Options) (most : ℕ) (cells : List (Cell Stated)) →
      AreRawCells g o most cells → IsOver g o most → ⊥
  pub few_packs : (g : GraphOf) (o : Options) (most : ℕ) (cells : List (Cell Stated)) →
      AreRawCells g o most cells → HasManyPacks g o → ⊥
