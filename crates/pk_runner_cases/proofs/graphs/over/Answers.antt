use Rattle.std.proofs.Common.{sym, ◌∙◌, subst}
use Rattle.pk_graph.specs.Shown.{graph_view}
use Rattle.pk_runner_cases.proofs.Steps.{LeadsOn, leads_on}
use Rattle.pk_runner_cases.proofs.graphs.over.Goals as goal

pub invariant_of-run : goal.invariant_of-run
invariant_of-run c =
    record {
      there = subst (LeadsOn (graph_view c.args.run.now.graph.now)) (sym c.in_ok-point.ensures ∙ c.in-To.is)
          (leads_on (graph_view c.args.run.now.graph.now) c.args.run.now.point c.args.edge c.edges-edges.result.now c.args.chosen.now c.args.run.now.store
          c.step_law.ensures c.well_made.ensures c.args.run.now.there c.edges-edges.ensures c.if-edges-edge.false);
    }
