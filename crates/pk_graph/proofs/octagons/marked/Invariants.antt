use Rattle.std.proofs.Common.{take}
use Rattle.pk_graph.specs.Shown.{graph_view}
use Rattle.pk_graph.specs.OctagonVariables.{is_asked_in, AreMarked}
use Rattle.pk_graph.proofs.octagons.marked.Given as goal

abbrev pub invariant-loop-point : goal.invariant-loop-point
invariant-loop-point l = AreMarked (λ x. is_asked_in x (take l.point (graph_view l.graph).points)) l.initial.marks.items l.marks.items
