use Rattle.std.proofs.Common.{List, length, map}
use Rattle.pk_graph.specs.Graphs.{PointOf, variable_view}
use Rattle.pk_graph.specs.OctagonVariables.{AreMarks}
use Rattle.pk_packs.proofs.FirstLemmas.{AreFound}
use Rattle.pk_packs.proofs.marks.first_marked.Given as goal

abbrev pub invariant-loop-number : goal.invariant-loop-number
invariant-loop-number l =
    (ps : List PointOf) → AreMarks ps (length l.variables) l.marks →
    AreFound ps (map variable_view l.variables) l.initial.left l.list.items l.left l.number
