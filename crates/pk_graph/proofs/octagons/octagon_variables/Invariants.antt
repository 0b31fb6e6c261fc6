use Rattle.std.proofs.Common.{map}
use Rattle.pk_graph.specs.Graphs.{variable_view}
use Rattle.pk_graph.specs.Shown.{graph_view}
use Rattle.pk_graph.proofs.FirstLemmas.{AreFound}
use Rattle.pk_graph.proofs.octagons.octagon_variables.Given as goal

abbrev pub invariant-loop-number : goal.invariant-loop-number
invariant-loop-number l = AreFound (graph_view l.graph).points (map variable_view l.variables) l.initial.left l.list.items l.left l.number
