use Rattle.std.proofs.Common.{sym, subst}
use Rattle.pk_graph.specs.Graphs.{kinds_of}
use Rattle.pk_graph.specs.Shown.{graph_view}
use Rattle.pk_transfer.specs.Trees.{IsOver}
use Rattle.pk_analysis.proofs.analysis.Analysis.of_points.Goals as goal

pub analysed-requires-clause-over : goal.analysed-requires-clause-over
analysed-requires-clause-over c =
    let g = graph_view c.args.graph.now in
    subst (IsOver (kinds_of g)) (sym c.requires.frame) (c.graphs_law.ensures.over g c.args.oct)
