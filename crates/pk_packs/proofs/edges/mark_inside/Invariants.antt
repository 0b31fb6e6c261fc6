use Rattle.std.proofs.Common.{map, take}
use Rattle.pk_graph.specs.Graphs.{EdgeOf, edge_view}
use Rattle.pk_graph.specs.OctagonVariables.{AreMarked}
use Rattle.pk_plan.specs.Plans.{is_inside}
use Rattle.pk_packs.proofs.EdgeLemmas.{is_asked_of}
use Rattle.pk_packs.proofs.edges.mark_inside.Given as goal

abbrev pub invariant-loop-number : goal.invariant-loop-number
invariant-loop-number l =
    AreMarked (λ x. is_asked_of (λ (e : EdgeOf). is_inside l.plan l.component e.to) x (take l.number (map edge_view l.edges))) l.initial.marks l.marks
