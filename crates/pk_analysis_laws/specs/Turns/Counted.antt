-- How often an element is run.
use Rattle.std.specs.Prelude.{ℕ, ◌+◌, ◌*◌, ◌^◌, ◌<◌, ◌≤◌, ◌==◌, max, if◌then◌else◌}
use Rattle.pk_graph.specs.Graphs.{GraphOf}
use Rattle.pk_graph.specs.WellMade.{IsGraph}
use Rattle.pk_packs.specs.Chains.{IsChainBound}
use Rattle.pk_plan.specs.Order.{Level, Empty, Vertex_then, Component_then}
use Rattle.pk_iterate.specs.Behaviour.{Behaviour}
use Rattle.pk_iterate.specs.Settled.{Once}
use Rattle.pk_iterate.specs.Ending.{result_count}
use Rattle.pk_iterate.specs.BoundedTurns.{EndsWithin}
use Rattle.pk_phases.specs.Turns.{turn_bound}
use Rattle.pk_analysis.specs.declared.analysis.Options.{Options}
use Rattle.pk_analysis.specs.Layouts.{packs_for}
use Rattle.pk_analysis_laws.specs.Systems.{IsOver}

abbrev pub once_at : ℕ → ℕ → ℕ
once_at v e = if v == e then 1 else 0

-- Where each entry of a component has so many turns at most: an element is run once where it stands, and in a component so often in each turn.
abbrev pub runs_within : (turns : ℕ) → Level → ℕ → ℕ
runs_within turns Empty e = 0
runs_within turns (Vertex_then v more) e = once_at v e + runs_within turns more e
runs_within turns (Component_then head exit rest more) e =
    turns * (once_at head e + (once_at exit e + runs_within turns rest e)) + runs_within turns more e

-- how deep components stand in components
abbrev pub depth_of : Level → ℕ
depth_of Empty = 0
depth_of (Vertex_then v more) = depth_of more
depth_of (Component_then head exit rest more) = max (1 + depth_of rest) (depth_of more)

-- An element is run at most so often, which is at most the turns to the power of the order's depth.
pub record RunsAreFew {C : Type 0} (b : Behaviour C) : Type 0 where
  pub counts : (order : Level) (turns : ℕ) (within : EndsWithin b order turns) (e : ℕ) →
      result_count within.ends e ≤ runs_within turns order e
  pub power : (order : Level) (turns : ℕ) → 1 ≤ turns → Once order → (e : ℕ) →
      runs_within turns order e ≤ turns ^ depth_of order

-- Some element of a graph is run more often than the limit only where the limit is below the turns to the power of the depth of the graph's order.
abbrev pub LimitsAreLow : Type 0
LimitsAreLow =
    (g : GraphOf) (o : Options) (most chain : ℕ) → IsGraph g → o.oct < 2 ^ 31 → (over : IsOver g o most) →
    IsChainBound g (packs_for g over.plan o) chain → most < turn_bound chain o.narrow o.delay ^ depth_of over.order
