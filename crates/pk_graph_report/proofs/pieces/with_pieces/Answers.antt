use Rattle.std.proofs.Common.{◌<◌, ◌∙◌, subst, ℕ, arith, length}
use Rattle.pk_graph.specs.Shown.{graph_view}
use Rattle.pk_report.specs.Reports.{AreHeads}
use Rattle.pk_pieces.proofs.Writing.{begun}
use Rattle.pk_graph_report.proofs.PointByPoint.{told_next, told_end}
use Rattle.pk_graph_report.proofs.pieces.with_pieces.Goals as goal

pub loop-point-init : goal.loop-point-init
loop-point-init c = begun c.args.first.items c.new-report.result c.new-report.ensures.bytes c.new-report.ensures.verdicts

pub loop-point-preserved : goal.loop-point-preserved
loop-point-preserved c =
    let g = graph_view c.args.graph.now in
    let size = c.requires.over.size in
    told_next c.args.all g c.args.heads.now c.args.states.now c.args.first.items (length g.points) c.loop-point.point c.in_ok-marks.marks.items _ c.in_ok-piece.piece c.loop-point.report c.add.new.self
    (subst (λ (n : ℕ). c.loop-point.point < n) (c.len-point-end.ensures ∙ size) c.loop-point-test.true)
    (subst (λ (n : ℕ). AreHeads n c.args.heads.now c.in_ok-marks.marks.items) (c.len.ensures ∙ size) c.in_ok-marks.ensures)
    c.index.ensures c.in_ok-piece.ensures c.loop-point.invariant c.in_ok-add.ensures.bytes c.in_ok-add.ensures.verdicts

pub returns : goal.returns
returns c =
    let g = graph_view c.args.graph.now in
    told_end c.args.all g c.args.heads.now c.args.states.now c.args.first.items c.loop-point.point c.loop-point.report
    (omega (arith, c.loop-point-test.false, c.loop-point.auto.point-end, c.len-point-end.ensures, c.requires.over.size)) c.loop-point.invariant
