use Rattle.std.proofs.Common.{◌≡◌, map, take}
use Rattle.pk_graph.specs.Graphs.{edge_view}
use Rattle.pk_analysis.specs.Digraphs.{targets_of}
use Rattle.pk_analysis.proofs.digraphs.targets.Given as goal

abbrev pub invariant-loop-edge : goal.invariant-loop-edge
invariant-loop-edge l = l.list.items ≡ targets_of (map edge_view (take l.edge-index l.edges))
