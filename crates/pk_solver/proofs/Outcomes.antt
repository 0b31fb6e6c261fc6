-- What the iteration leaves is over the graph's variables.
use Rattle.std.specs.Prelude.{◌≡◌, ℕ, ◌+◌, ◌*◌, ◌≤◌, List, [], ◌∷◌, length, map, take, All, None}
use Rattle.std.specs.List.{range_with_len}
use Rattle.std.proofs.Common.{arith, refl, subst, sym, ap, ◌∙◌}
use Rattle.std.proofs.lemmas.List.{length-map, length-take-le}
use Rattle.std.proofs.lemmas.List.FromFn.{length-range_with_len}
use Rattle.std.proofs.lemmas.List.Elements.{All-nil, All-cons}
use Rattle.pk_graph.specs.Graphs.{GraphOf, kinds_of}
use Rattle.pk_graph.specs.Shown.{graph_view}
use Rattle.pk_state.specs.Facts.{Stated}
use Rattle.pk_state.specs.Layouts.{Layout}
use Rattle.pk_transfer.specs.Trees as trees
use Rattle.pk_plan.specs.Order.{Level}
use Rattle.pk_plan.specs.Plans.{PlanView}
use Rattle.pk_iterate.specs.Answer.{IsResult}
use Rattle.pk_iterate.specs.Iteration.{cell_after, progress}
use Rattle.pk_iterate.specs.Laws.{CellsAreHeld}
use Rattle.pk_iterate.specs.Outcome.{Outcome}
use Rattle.pk_phases.specs.declared.equations.Cell.{Cell}
use Rattle.pk_phases.specs.declared.equations.Cell.TheVariants.{Value, Exit}
use Rattle.pk_phases.specs.declared.equations.Part.{Part}
use Rattle.pk_phases.specs.declared.equations.Part.TheVariants.{Point, HeadOf, ExitOf}
use Rattle.pk_phases.specs.Equations.{behaviour_of, held_in, may_hold_of, value_of}
use Rattle.pk_analysis.specs.declared.analysis.Options.{Options}
use Rattle.pk_analysis.specs.Flows.{Flow, equations_of, stated, reduced_cell, IsOverFlow}
use Rattle.pk_analysis.specs.Layouts.{LayoutsAreOver}
use Rattle.pk_analysis.specs.Parts.{part_at}
use Rattle.pk_solver.specs.Solved.{AreCellsOver, AreOver, AreRawCells, AreStates, IsOutcomeOf}
use Rattle.pk_solver.proofs.Solved.{enough_elements}

-- a cell whose value is over the layout
IsCellOver : Flow → Cell Stated → Type 0
IsCellOver a c = (value_of (stated a.layout None) c).layout ≡ a.layout

over_part : (a : Flow) (e : ℕ) (part : Part) (c : Cell Stated) → held_in (IsOverFlow a) e part c → IsCellOver a c
unfolding IsCellOver
over_part a e Point (Value v) h = h
over_part a e Point (Exit p) h = refl
over_part a e (HeadOf exit) (Value v) h = h
over_part a e (HeadOf exit) (Exit p) h = refl
over_part a e (ExitOf head) (Value v) h = absurd h
over_part a e (ExitOf head) (Exit p) h = refl

-- each cell of an outcome
cells_over : (a : Flow) (order : Level) (elements most : ℕ) (it : Outcome (Cell Stated))
    → CellsAreHeld (behaviour_of (equations_of a)) (may_hold_of (equations_of a) (IsOverFlow a)) → IsResult (behaviour_of (equations_of a)) order elements most it
    → All (λ (c : Cell Stated). (value_of (stated a.layout None) c).layout ≡ a.layout) it.cells
unfolding IsCellOver
cells_over a order elements most it held is =
    subst (All (IsCellOver a)) (sym is.cells_after) (each (range_with_len 0 elements))
  where
    runs : List (ℕ × Cell Stated)
    runs = (progress (behaviour_of (equations_of a)) order (elements * most + 1)).runs

    each : (es : List ℕ) → All (IsCellOver a) (map (cell_after (behaviour_of (equations_of a)) runs) es)
    each [] = All-nil (IsCellOver a)
    each (e ∷ es) =
        All-cons (IsCellOver a) (cell_after (behaviour_of (equations_of a)) runs e) (map (cell_after (behaviour_of (equations_of a)) runs) es)
        (over_part a e (part_at a.parts e) (cell_after (behaviour_of (equations_of a)) runs e) (held.cells order (elements * most + 1) e)) (each es)

pub cells_many : (a : Flow) (order : Level) (elements most : ℕ) (it : Outcome (Cell Stated)) → IsResult (behaviour_of (equations_of a)) order elements most it → length it.cells ≡ elements
cells_many a order elements most it is =
    ap (λ (cs : List (Cell Stated)). length cs) is.cells_after
    ∙ length-map (range_with_len 0 elements) (cell_after (behaviour_of (equations_of a)) (progress (behaviour_of (equations_of a)) order (elements * most + 1)).runs)
    ∙ length-range_with_len 0 elements

-- reduced, at the points
states_over : (g : GraphOf) (a : Flow) (cells : List (Cell Stated)) (states : List Stated)
    → trees.IsOver (kinds_of g) a.layout → length g.points ≤ length cells → states ≡ map (reduced_cell a) (take (length g.points) cells) → AreOver g states
states_over g a cells states over enough made = record {
  size = ap (λ (ss : List Stated). length ss) made ∙ length-map (take (length g.points) cells) (reduced_cell a) ∙ length-take-le (length g.points) cells enough;
  each = subst (All (λ (s : Stated). trees.IsOver (kinds_of g) s.layout)) (sym made) (all (take (length g.points) cells));
}
  where
    all : (cs : List (Cell Stated)) → All (λ (s : Stated). trees.IsOver (kinds_of g) s.layout) (map (reduced_cell a) cs)
    all [] = All-nil (λ (s : Stated). trees.IsOver (kinds_of g) s.layout)
    all (c ∷ cs) = All-cons (λ (s : Stated). trees.IsOver (kinds_of g) s.layout) (reduced_cell a c) (map (reduced_cell a) cs) over (all cs)

-- ---- what was found

module _ (o : Options) (p : PlanView) (a : Flow) (most : ℕ) (it : Outcome (Cell Stated)) (x : IsOutcomeOf o p a most it) where
  -- of each element, the points among them, over the variables
  pub cells_over_so : CellsAreHeld (behaviour_of (equations_of a)) (may_hold_of (equations_of a) (IsOverFlow a)) → AreCellsOver (graph_view a.graph) a.layout it.cells
  cells_over_so held = record {
    enough = omega (arith, cells_many a x.order p.elements most it x.result, enough_elements (graph_view a.graph) p x.order x.system.ordered);
    over = cells_over a x.order p.elements most it held x.result;
  }

  pub raw_so : AreRawCells (graph_view a.graph) o most it.cells
  raw_so = record { plan = p; order = x.order; flow = a; system = x.system; outcome = it; result = x.result; cells_are = refl }

  module _ (states : List Stated) (made : states ≡ map (reduced_cell a) (take (length (graph_view a.graph).points) it.cells)) where
    pub states_so : AreStates (graph_view a.graph) o most p states
    states_so = record { order = x.order; flow = a; system = x.system; outcome = it; result = x.result; reduced = made }

    pub over_so : LayoutsAreOver → AreCellsOver (graph_view a.graph) a.layout it.cells → AreOver (graph_view a.graph) states
    over_so law y =
        let over = subst (trees.IsOver (kinds_of (graph_view a.graph))) (sym x.system.analysis.layout) (law.over (graph_view a.graph) p o) in
        states_over (graph_view a.graph) a it.cells states over y.enough made

-- of a graph, and over the layout of its frame
pub cells_moved : {g h : GraphOf} {l y : Layout} (cells : List (Cell Stated)) → g ≡ h → l ≡ y → AreCellsOver g l cells → AreCellsOver h y cells
cells_moved {g} {h} {l} {y} cells graph layout x = subst (λ (z : Layout). AreCellsOver h z cells) layout (subst (λ (k : GraphOf). AreCellsOver k l cells) graph x)
