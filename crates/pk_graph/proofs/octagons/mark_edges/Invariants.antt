use Rattle.std.proofs.Common.{map, take}
use Rattle.std.specs.List.{list_any}
use Rattle.pk_graph.specs.Graphs.{EdgeOf, edge_view}
use Rattle.pk_graph.specs.OctagonVariables.{is_asked_by, AreMarked}
use Rattle.pk_graph.proofs.octagons.mark_edges.Given as goal

abbrev pub invariant-loop-number : goal.invariant-loop-number
invariant-loop-number l = AreMarked (λ x. list_any (λ (e : EdgeOf). is_asked_by x e.instr) (take l.number (map edge_view l.edges))) l.initial.marks l.marks
