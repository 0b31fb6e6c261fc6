-- Which run limits are enough for a graph.
use Rattle.std.specs.Prelude.{ℕ, ◌⊎◌, ◌<◌, ◌≤◌, ◌^◌, Bool, List}
use Rattle.pk_graph.specs.Graphs.{GraphOf}
use Rattle.pk_graph.specs.WellMade.{IsGraph}
use Rattle.pk_plan.specs.Order.{Level}
use Rattle.pk_plan.specs.Plans.{PlanView}
use Rattle.pk_order.specs.Ordered.{IsOrdered}
use Rattle.pk_packs.specs.Chains.{IsChainBound}
use Rattle.pk_phases.specs.Turns.{turn_bound}
use Rattle.pk_analysis.specs.declared.analysis.Options.{Options}
use Rattle.pk_analysis.specs.Digraphs.{digraph_of}
use Rattle.pk_analysis.specs.Layouts.{packs_for}
use Rattle.pk_graph_report.specs.Reported.{IsReport, IsSummary}
use Rattle.pk_cert_report.specs.Causes.{IsTooLong}
use Rattle.pk_analysis_laws.specs.Systems.{HasManyPacks}
use Rattle.pk_analysis_laws.specs.Turns.Counted.{depth_of}
use Rattle.pk_answer_laws.specs.Analyses.{HasRoom}

-- It is at least the most turns of an entry, to the power of how deep components stand in components in the graph's order.
pub record IsEnough (g : GraphOf) (o : Options) (most : ℕ) : Type 0 where
  pub chain : ℕ
  pub bound : (p : PlanView) (order : Level) → IsOrdered (digraph_of g) p order → IsChainBound g (packs_for g p o) chain
  pub deep : (p : PlanView) (order : Level) → IsOrdered (digraph_of g) p order →
      turn_bound chain o.narrow o.delay ^ depth_of order ≤ most

-- under such a limit there is a report, unless there are too many packs
abbrev pub EnoughIsReported : Type 0
EnoughIsReported =
    (g : GraphOf) (o : Options) (most : ℕ) (all : Bool) → IsGraph g → HasRoom g → o.oct < 2 ^ 31 → IsEnough g o most →
    ((unknown : ℕ) × (bytes : List ℕ) × IsReport g o most all unknown bytes) ⊎ HasManyPacks g o

-- and a summary
abbrev pub EnoughIsSummed : Type 0
EnoughIsSummed =
    (g : GraphOf) (o : Options) (most seed size text_length : ℕ) → IsGraph g → HasRoom g → o.oct < 2 ^ 31 →
    IsEnough g o most
    → ((unknown : ℕ) × (bytes : List ℕ) × IsSummary g o most seed size text_length unknown bytes) ⊎ HasManyPacks g o

-- there is such a limit, and each greater one is enough too
abbrev pub EveryGraphHasLimits : Type 0
EveryGraphHasLimits =
    (g : GraphOf) (o : Options) → IsGraph g → (least : ℕ) × ((most : ℕ) → least ≤ most → IsEnough g o most)

-- the run limit is told of a text only where it isn't enough for the text's graph
abbrev pub CutOffsAreLow : Type 0
CutOffsAreLow =
    (text entry : List ℕ) (o : Options) (most : ℕ) → o.oct < 2 ^ 31 → (cut : IsTooLong text entry o most) →
    IsEnough cut.graph o most → ⊥
