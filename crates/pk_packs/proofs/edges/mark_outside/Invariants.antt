use Rattle.std.proofs.Common.{map, take}
use Rattle.pk_graph.specs.Graphs.{edge_view}
use Rattle.pk_graph.specs.OctagonVariables.{AreMarked}
use Rattle.pk_packs.specs.Belongs.{lies_in_none}
use Rattle.pk_packs.proofs.EdgeLemmas.{is_asked_of}
use Rattle.pk_packs.proofs.edges.mark_outside.Given as goal

abbrev pub invariant-loop-number : goal.invariant-loop-number
invariant-loop-number l =
    AreMarked (λ x. is_asked_of (lies_in_none l.plan l.from) x (take l.number (map edge_view l.edges))) l.initial.marks l.marks
