use Rattle.std.proofs.Common.{map}
use Rattle.pk_graph.specs.Graphs.{variable_view}
use Rattle.pk_graph.specs.Named.{names_view}
use Rattle.pk_graph.proofs.VisibleLemmas.{AreShown}
use Rattle.pk_graph.proofs.visibility.not_hidden.Given as goal

abbrev pub invariant-loop-number : goal.invariant-loop-number
invariant-loop-number l = AreShown (map variable_view l.variables) l.scope l.number (names_view l.names) l.list.items
