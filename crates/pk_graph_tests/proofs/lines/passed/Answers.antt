use Rattle.std.proofs.Common.{arith, subst, sym}
use Rattle.pk_graph.specs.declared.graphs.Edge.{Edge}
use Rattle.pk_graph.specs.Shown.{graph_view}
use Rattle.pk_graph.specs.Views.{instr_view}
use Rattle.pk_transfer.specs.Transfers.{IsInstrOver}
use Rattle.pk_graph_tests.proofs.OneEdge.{over_first}
use Rattle.pk_graph_tests.proofs.lines.passed.Goals as goal

pub transfer-requires : goal.transfer-requires
transfer-requires c =
    subst (λ (e : Edge). IsInstrOver c.args.state.now.layout (instr_view e.instr)) (sym c.index-edges-0.is)
    (over_first (graph_view c.args.graph.now) c.args.state.now.layout c.args.oct c.args.point c.edges-edges.result.now c.index-edges-0.result c.graphs_law.ensures c.well_made.ensures c.requires.layout c.requires.point c.edges-edges.ensures
    (omega (arith, c.if-edges-ne1.false)))
