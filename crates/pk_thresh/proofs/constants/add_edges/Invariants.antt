use Rattle.std.proofs.Common.{◌≡◌, ◌++◌, take, map}
use Rattle.pk_graph.specs.Graphs.{edge_view}
use Rattle.pk_thresh.specs.Thresholds.{constants_along}
use Rattle.pk_thresh.proofs.constants.add_edges.Given as goal

abbrev pub invariant-loop-edge : goal.invariant-loop-edge
invariant-loop-edge l = l.all.items ≡ l.fn.all.items ++ constants_along (map edge_view (take l.edge-index l.edges))
