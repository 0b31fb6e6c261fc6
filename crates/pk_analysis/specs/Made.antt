-- What the analysis of a graph is.
use Rattle.std.specs.Prelude.{◌≡◌, List}
use Rattle.pk_graph.specs.Graphs.{GraphOf}
use Rattle.pk_graph.specs.Shown.{graph_view}
use Rattle.pk_plan.specs.Plans.{PlanView}
use Rattle.pk_phases.specs.declared.equations.Part.{Part}
use Rattle.pk_thresh.specs.Thresholds.{AreThresholds}
use Rattle.pk_state.specs.Layouts.{Layout}
use Rattle.pk_analysis.specs.declared.analysis.Options.{Options}
use Rattle.pk_analysis.specs.Layouts.{layout_for, HasFewPacks}
use Rattle.pk_analysis.specs.Parts.{AreParts}
use Rattle.pk_analysis.specs.Flows.{Flow}

-- the equations of the graph's points, with the heads and exits of the plan, and an octagon over each pack of it if packs are asked for
pub record IsAnalysisOf (g : GraphOf) (p : PlanView) (o : Options) (a : Flow) : Type 0 where
  pub graph : graph_view a.graph ≡ g
  pub layout : a.layout ≡ layout_for g p o
  pub few : HasFewPacks p o
  pub thresholds : AreThresholds g a.thresholds
  pub parts : AreParts p a.parts
  pub delay : a.delay ≡ o.delay
  pub narrow : a.narrow ≡ o.narrow

-- the equations of the graph's points over a layout, with heads and exits where these parts have them
pub record IsFlowOf (g : GraphOf) (ps : List Part) (y : Layout) (o : Options) (a : Flow) : Type 0 where
  pub graph : graph_view a.graph ≡ g
  pub layout : a.layout ≡ y
  pub thresholds : AreThresholds g a.thresholds
  pub parts : a.parts ≡ ps
  pub delay : a.delay ≡ o.delay
  pub narrow : a.narrow ≡ o.narrow
