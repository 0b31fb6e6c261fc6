use Rattle.std.proofs.Common.{◌∙◌, subst, sym}
use Rattle.pk_graph.specs.Shown.{graph_view}
use Rattle.pk_graph.specs.WellMade.{IsGraph}
use Rattle.pk_solver.proofs.Solved.{own_system, plan_points}
use Rattle.pk_solver.proofs.preparing.analysis_of.Goals as goal

pub new-requires-clause-plan : goal.new-requires-clause-plan
new-requires-clause-plan c = plan_points (graph_view c.args.graph.now) c.args.plan.now c.requires.prepared.order c.requires.prepared.ordered

pub new-requires-clause-frame : goal.new-requires-clause-frame
new-requires-clause-frame c = c.requires.prepared.layout

pub new-requires-clause-few : goal.new-requires-clause-few
new-requires-clause-few c = c.requires.prepared.few

pub returns-clause-graph : goal.returns-clause-graph
returns-clause-graph c = c.in_ok-analysis.ensures.graph

pub returns-clause-made : goal.returns-clause-made
returns-clause-made c = subst IsGraph (sym c.in_ok-analysis.ensures.graph) c.well_made.ensures

pub returns-clause-layout : goal.returns-clause-layout
returns-clause-layout c = c.in_ok-analysis.ensures.layout ∙ sym c.requires.prepared.layout

pub returns-clause-system : goal.returns-clause-system
returns-clause-system c = own_system (graph_view c.args.graph.now) c.args.options c.args.plan.now c.in_ok-analysis.analysis (c.requires.prepared.order, c.requires.prepared.ordered) c.in_ok-analysis.ensures
