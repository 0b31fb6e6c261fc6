-- The analysis of a graph ends.
use Rattle.std.specs.Prelude.{◌≡◌, ℕ, ◌<◌, ◌≤◌, ◌^◌, ℤ, List, map, length, Option}
use Rattle.pk_graph.specs.Graphs.{GraphOf}
use Rattle.pk_graph.specs.WellMade.{IsGraph}
use Rattle.pk_state.specs.Facts.{Facts, Stated}
use Rattle.pk_transfer.specs.Graphs.{layout_over}
use Rattle.pk_thresh.specs.Thresholds.{AreThresholds}
use Rattle.pk_thresh.specs.Chains.{chain_bound_of}
use Rattle.pk_packs.specs.Chains.{IsChainBound}
use Rattle.pk_plan.specs.Order.{Level}
use Rattle.pk_plan.specs.Plans.{PlanView}
use Rattle.pk_iterate.specs.Iteration.{cell_after, progress}
use Rattle.pk_iterate.specs.BoundedTurns.{EndsWithin}
use Rattle.pk_phases.specs.declared.equations.Cell.{Cell}
use Rattle.pk_phases.specs.Equations.{value_of, new_value, behaviour_of}
use Rattle.pk_phases.specs.Turns.{turn_bound}
use Rattle.pk_analysis.specs.declared.analysis.Options.{Options}
use Rattle.pk_analysis.specs.Flows.{Flow, equations_of}
use Rattle.pk_analysis.specs.Layouts.{packs_for}
use Rattle.pk_analysis.specs.Made.{IsAnalysisOf}
use Rattle.pk_analysis_laws.specs.Systems.{IsSystem}
use Rattle.pk_analysis_laws.specs.Ranks.States.{IsStateOf, IsChain}

-- No list of widening steps of states over a graph, with an octagon over each of these packs, is longer than their bound.
abbrev pub GraphChainsEnd : Type 0
GraphChainsEnd =
    (g : GraphOf) (packs : List (List ℕ)) (chain : ℕ) (thresholds : List ℤ) (h : Option Facts)
    (ns : List (Option Facts)) → IsChainBound g packs chain → AreThresholds g thresholds →
    IsStateOf (layout_over g packs) h → IsChain (layout_over g packs) thresholds h ns → length ns ≤ chain

-- what is known at an element after these runs; nothing at an exit
abbrev pub known_after : Flow → List (ℕ × Cell Stated) → ℕ → Option Facts
known_after a runs e = (value_of (equations_of a).bottom (cell_after (behaviour_of (equations_of a)) runs e)).facts

-- what the point's equation gives after these runs
abbrev pub given_after : Flow → List (ℕ × Cell Stated) → ℕ → Option Facts
given_after a runs e =
    (new_value (equations_of a) e
    (map (cell_after (behaviour_of (equations_of a)) runs) ((equations_of a).sources e))).facts

-- at an element after these runs: both are states in which classes are of their variables' types
pub record HasStates (a : Flow) (runs : List (ℕ × Cell Stated)) (e : ℕ) : Type 0 where
  pub known : IsStateOf a.layout (known_after a runs e)
  pub given : IsStateOf a.layout (given_after a runs e)

abbrev pub CellsAreStates : Type 0
CellsAreStates =
    (g : GraphOf) (o : Options) (p : PlanView) (order : Level) (a : Flow) → IsGraph g → o.oct < 2 ^ 31 →
    IsAnalysisOf g p o a → (n e : ℕ) → HasStates a (progress (behaviour_of (equations_of a)) order n).runs e

-- The recursion over the order ends, and each entry of a component runs its head at most so often: with packs by the bound with an octagon over each of them.
abbrev pub AnalysesEnd : Type 0
AnalysesEnd =
    (g : GraphOf) (o : Options) (p : PlanView) (order : Level) (a : Flow) (chain : ℕ) → IsGraph g → o.oct < 2 ^ 31 →
    IsSystem g o p order a → IsChainBound g (packs_for g p o) chain
    → EndsWithin (behaviour_of (equations_of a)) order (turn_bound chain o.narrow o.delay)

-- two scalars, seven thresholds and one variable in the octagon, with two runs that narrow and none that joins first
pub record SmallBounds : Type 0 where
  pub chain : chain_bound_of 2 7 1 ≡ 169
  pub turns : turn_bound 169 2 0 ≡ 342
