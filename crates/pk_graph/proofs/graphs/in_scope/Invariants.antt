use Rattle.pk_graph.proofs.ScopeLemmas.{IsLeft}
use Rattle.pk_graph.proofs.graphs.in_scope.Given as goal

abbrev pub invariant-loop-left : goal.invariant-loop-left
invariant-loop-left l = IsLeft l.scopes l.initial.left l.left l.list.items

abbrev pub decreases-loop-left : goal.decreases-loop-left
decreases-loop-left l = l.left
