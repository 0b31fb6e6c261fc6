use Rattle.std.proofs.Common.{◌≡◌, sym, subst, IfOk}
use Rattle.pk_graph.specs.Graphs.{EdgeOf}
use Rattle.pk_graph.specs.Shown.{graph_view}
use Rattle.pk_graph_step.specs.GraphSteps.{no_edge, step_over}
use Rattle.pk_graph_step.proofs.EdgeLemmas.{edge_is, edge_typed}
use Rattle.pk_graph_step.proofs.stepping.graph_step.Goals as goal

pub stepped-requires-clause-typed : goal.stepped-requires-clause-typed
stepped-requires-clause-typed c =
    edge_typed (graph_view c.args.graph.now) c.args.point c.args.edge c.edges-edges.result.now _ c.well_made.ensures c.requires.point c.edges-edges.ensures c.requires.edge c.index-edges-edge.is

pub returns : goal.returns
returns c =
    subst (λ (e : EdgeOf). IfOk c.stepped.result (λ r. r ≡ step_over e c.args.chosen.now c.args.store.now))
    (sym (edge_is (graph_view c.args.graph.now) c.args.point c.args.edge c.edges-edges.result.now _ c.edges-edges.ensures c.requires.edge c.index-edges-edge.is no_edge)) c.stepped.ensures
