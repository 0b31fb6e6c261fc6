use Rattle.std.proofs.Common.{arith, ap}
use Rattle.std.proofs.lemmas.List.{length-map}
use Rattle.pk_graph.specs.declared.graphs.Edge.{Edge}
use Rattle.pk_graph.specs.Graphs.{edge_view}
use Rattle.pk_analysis.specs.Arrows.{no_edge}
use Rattle.pk_analysis.proofs.ArrowLemmas.{edge_leads}
use Rattle.pk_analysis.proofs.digraphs.targets.Goals as goal

pub overflow_cast-edge : goal.overflow_cast-edge
overflow_cast-edge c =
    let es = c.args.edges.now in
    let k = c.loop-edge.edge-index in
    let leads = edge_leads es k c.edge-item.result c.loop-edge-test.true in
    let many = length-map es edge_view in
    let here = c.requires k no_edge (omega (arith, many)) in
    let same = ap (λ (e : Edge). e.to) c.edge-item.is in
    omega (arith, leads, here, same)
