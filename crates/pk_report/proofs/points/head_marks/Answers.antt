use Rattle.pk_report.proofs.PointLemmas.{marks_begin, marks_next, marks_past, marks_end}
use Rattle.pk_report.proofs.points.head_marks.Goals as goal
use Rattle.pk_report.proofs.points.head_marks.Goals.{then-head-points, else-head-points}

pub loop-k-init : goal.loop-k-init
loop-k-init c = marks_begin c.args.points c.args.heads.now c.in_ok-marks.marks.items (c.in_ok-marks.ensures.items_if_clones_equal (λ y e. e))

pub loop-k-preserved : goal.loop-k-preserved
loop-k-preserved c =
    elim c.if-head-points.branch [
      | then-head-points w ↦ rw w.marks-is (marks_next c.args.points c.args.heads.now c.loop-k.k c.loop-k.marks.items c.loop-k-test.true w.if-head-points.true c.loop-k.invariant)
      | else-head-points w ↦ rw w.marks-is (marks_past c.args.points c.args.heads.now c.loop-k.k c.loop-k.marks.items c.loop-k-test.true w.if-head-points.false c.loop-k.invariant)
    ]

pub returns : goal.returns
returns c = marks_end c.args.points c.args.heads.now c.loop-k.k c.loop-k.marks.items c.loop-k-test.false c.loop-k.invariant
