use Rattle.std.proofs.Common.{map}
use Rattle.pk_graph.specs.Graphs.{edge_view}
use Rattle.pk_number.proofs.PointLemmas.{AreRenumbered}
use Rattle.pk_number.proofs.numbering.renumber.Given as goal

abbrev pub invariant-loop-k : goal.invariant-loop-k
invariant-loop-k l = AreRenumbered l.numbers (map edge_view l.initial.edges) l.k l.edges
