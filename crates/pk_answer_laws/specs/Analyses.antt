-- Every graph has a report, or too many packs, or is cut off.
use Rattle.std.specs.Prelude.{◌≡◌, ◌⊎◌, ℕ, Bool, List}
use Rattle.pk_graph.specs.declared.graphs.Graph.{Graph}
use Rattle.pk_graph.specs.Graphs.{GraphOf}
use Rattle.pk_graph.specs.Shown.{graph_view}
use Rattle.pk_graph.specs.WellMade.{IsGraph}
use Rattle.pk_analysis.specs.declared.analysis.Options.{Options}
use Rattle.pk_analysis_laws.specs.Systems.{HasManyPacks, IsOver}
use Rattle.pk_graph_report.specs.Reported.{IsReport, IsSummary, IsOrderText}

-- memory has room for the graph: a value of the code shows it
pub record HasRoom (g : GraphOf) : Type 0 where
  pub value : Graph
  pub shows : graph_view value ≡ g

-- the report on a graph, or too many packs, or an element that would be run too often
abbrev pub EveryGraphIsReported : Type 0
EveryGraphIsReported =
    (g : GraphOf) (o : Options) (most : ℕ) (all : Bool) → IsGraph g → HasRoom g →
    ((unknown : ℕ) × (bytes : List ℕ) × IsReport g o most all unknown bytes) ⊎ (HasManyPacks g o ⊎ IsOver g o most)

-- so of the summary
abbrev pub EveryGraphIsSummed : Type 0
EveryGraphIsSummed =
    (g : GraphOf) (o : Options) (most seed size text_length : ℕ) → IsGraph g → HasRoom g →
    ((unknown : ℕ) × (bytes : List ℕ) × IsSummary g o most seed size text_length unknown bytes)
    ⊎ (HasManyPacks g o ⊎ IsOver g o most)

-- every graph has an order, and a peak of it
abbrev pub EveryGraphIsOrdered : Type 0
EveryGraphIsOrdered =
    (g : GraphOf) (with_peak : Bool) → IsGraph g → (bytes : List ℕ) × IsOrderText g with_peak bytes
