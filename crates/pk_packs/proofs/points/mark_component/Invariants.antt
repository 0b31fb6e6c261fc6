use Rattle.std.proofs.Common.{take}
use Rattle.std.specs.List.{list_any}
use Rattle.pk_graph.specs.Shown.{graph_view}
use Rattle.pk_graph.specs.OctagonVariables.{AreMarked}
use Rattle.pk_packs.proofs.ComponentLemmas.{asked_inside}
use Rattle.pk_packs.proofs.points.mark_component.Given as goal

abbrev pub invariant-loop-number : goal.invariant-loop-number
invariant-loop-number l =
    AreMarked (λ x. list_any (asked_inside (graph_view l.graph) l.plan l.component x) (take l.number l.members)) l.initial.marks l.marks
