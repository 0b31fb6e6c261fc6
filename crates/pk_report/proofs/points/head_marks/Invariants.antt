use Rattle.pk_report.proofs.PointLemmas.{AreMarked}
use Rattle.pk_report.proofs.points.head_marks.Given as goal

abbrev pub invariant-loop-k : goal.invariant-loop-k
invariant-loop-k l = AreMarked l.points l.heads l.k l.marks.items
