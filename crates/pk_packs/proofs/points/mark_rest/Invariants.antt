use Rattle.std.proofs.Common.{take}
use Rattle.pk_graph.specs.Shown.{graph_view}
use Rattle.pk_graph.specs.OctagonVariables.{AreMarked, is_asked_in}
use Rattle.pk_packs.specs.Belongs.{lies_in_none}
use Rattle.pk_packs.specs.Packs.{with_edges}
use Rattle.pk_packs.proofs.points.mark_rest.Given as goal

abbrev pub invariant-loop-point : goal.invariant-loop-point
invariant-loop-point l =
    AreMarked (λ x. is_asked_in x (take l.point (with_edges (lies_in_none l.plan) 0 (graph_view l.graph).points))) l.initial.marks l.marks
