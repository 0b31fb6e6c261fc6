use Rattle.pk_graph.specs.Shown.{graph_view}
use Rattle.pk_report.specs.Values.{pair_lines_if}
use Rattle.pk_report.proofs.OctagonLemmas.{IsPaired}
use Rattle.pk_report.proofs.octagons.write_all_pairs.Given as goal

abbrev pub invariant-loop-k : goal.invariant-loop-k
invariant-loop-k l = IsPaired (pair_lines_if (graph_view l.graph) l.state.layout l.state.facts) l.list l.k l.initial.bytes.items l.bytes.items
