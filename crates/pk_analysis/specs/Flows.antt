-- The equations of a graph's points (Cousot and Cousot 1977): what is known at a point is the join of what is known after the edges that lead to it.
use Rattle.std.specs.Prelude.{◌≡◌, ℕ, ◌^◌, ◌<◌, ◌≤◌, ◌==◌, if◌then◌else◌, ℤ, List, [], ◌∷◌, length, map, All, Option, None, Some}
use Rattle.pk_graph.specs.declared.graphs.Graph.{Graph}
use Rattle.pk_graph.specs.Graphs.{GraphOf}
use Rattle.pk_graph.specs.Shown.{graph_view}
use Rattle.pk_state.specs.Layouts.{Layout}
use Rattle.pk_state.specs.Facts.{Facts, Stated, joined, widened, narrowed}
use Rattle.pk_state.specs.Reduced.{reduced}
use Rattle.pk_transfer.specs.Transfers.{transferred}
use Rattle.pk_phases.specs.declared.equations.Part.{Part}
use Rattle.pk_phases.specs.declared.equations.Cell.{Cell}
use Rattle.pk_phases.specs.Values.{Operations}
use Rattle.pk_phases.specs.Equations.{Equations, value_of}
use Rattle.pk_analysis.specs.declared.arrows.Arrow.{Arrow}
use Rattle.pk_analysis.specs.Arrows.{arrows_at, origins, instr_of}
use Rattle.pk_analysis.specs.Parts.{part_at}
use Rattle.pk_analysis.specs.Starts.{start_facts}
use Rattle.pk_analysis.specs.Orders.{is_below, is_same}

-- the facts f, joined in edge order with what is known after each of these edges
abbrev pub arrived : GraphOf → Layout → List Arrow → List (Option Facts) → Option Facts → Option Facts
arrived g l [] before f = f
arrived g l (a ∷ more) [] f = f
arrived g l (a ∷ more) (b ∷ bs) f = arrived g l more bs (joined f (transferred l b (instr_of g a)))

-- the start state at the entry
abbrev pub start_at : GraphOf → Layout → ℕ → Option Facts
start_at g l v = if v == 0 then Some (start_facts g l) else None

-- the point equation, of what is known where the edges to v begin
abbrev pub equation : GraphOf → Layout → ℕ → List (Option Facts) → Option Facts
equation g l v before = arrived g l (arrows_at g v) before (start_at g l v)

-- what is analysed: a graph, over which variables, at which numbers widening stops, which elements are heads and exits, how many runs of a head join before the first widening, and how many narrow
pub record Flow : Type 0 where
  pub graph : Graph
  pub layout : Layout
  pub thresholds : List ℤ
  pub parts : List Part
  pub delay : ℕ
  pub narrow : ℕ

abbrev pub stated : Layout → Option Facts → Stated
stated l f = record { layout = l; facts = f }

abbrev pub state_operations : Layout → List ℤ → Operations Stated
state_operations l thresholds = record {
  leq = λ n h. is_below n.facts h.facts;
  join = λ h n. stated l (joined h.facts n.facts);
  widen = λ h n. stated l (widened l thresholds h.facts n.facts);
  narrow = λ h n. stated l (narrowed l h.facts n.facts);
  same = λ a b. is_same a.facts b.facts;
}

abbrev pub equations_of : Flow → Equations Stated
equations_of a = record {
  ops = state_operations a.layout a.thresholds;
  bottom = stated a.layout None;
  part = part_at a.parts;
  sources = λ v. origins (arrows_at (graph_view a.graph) v);
  value = λ v before. stated a.layout (equation (graph_view a.graph) a.layout v (map (λ (s : Stated). s.facts) before));
  delay = a.delay;
  narrow = a.narrow;
}

-- a point holds states over the graph's variables
abbrev pub IsOverFlow : Flow → ℕ → Stated → Type 0
IsOverFlow a e s = s.layout ≡ a.layout

-- what is known at a point once it is reduced
abbrev pub reduced_over : Layout → Cell Stated → Stated
reduced_over l c = stated l (reduced l (value_of (stated l None) c).facts)

abbrev pub reduced_cell : Flow → Cell Stated → Stated
reduced_cell a = reduced_over a.layout

-- there is a cell for each of so many points, which are numbered in 32 bits, over the layout
pub record ArePointCells (l : Layout) (points : ℕ) (cells : List (Cell Stated)) : Type 0 where
  pub few : points < 2 ^ 32
  pub each : points ≤ length cells
  pub over : All (λ (c : Cell Stated). (value_of (stated l None) c).layout ≡ l) cells
