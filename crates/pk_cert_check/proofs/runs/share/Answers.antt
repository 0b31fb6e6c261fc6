use Rattle.std.proofs.Common.{ℕ, map, ap, ◌∙◌, refl, length, get_or}
use Rattle.std.specs.List.{slice_index_or}
use Rattle.std.specs.Arc.{arc_value}
use Rattle.std.proofs.lemmas.List.{take_all}
use Rattle.std.proofs.lemmas.Option.{slice_get_read}
use Rattle.pk_cert_check.proofs.Running.{got_of, shared_on}
use Rattle.pk_cert_check.proofs.runs.share.Goals as goal

pub loop-u-preserved : goal.loop-u-preserved
loop-u-preserved c =
    let u = get_or c.args.points.now c.loop-u.u-index 0 in
    let cells = c.args.cells.now in
    let there = got_of arc_value cells u c.index-cells-u.result (slice_get_read cells (length cells) u c.index-cells-u.result refl (c.requires c.loop-u.u-index 0 c.loop-u-test.true) c.index-cells-u.is) in
    rw c.in_ok-push.ensures.items
    (shared_on arc_value (map arc_value cells) c.args.points.now c.loop-u.u-index c.loop-u.out.items c.in_ok-clone.field-0 (arc_value c.index-cells-u.result) c.loop-u-test.true c.loop-u.invariant there c.in_ok-clone.ensures.cases)

pub returns : goal.returns
returns c = λ d. c.loop-u.invariant d ∙ ap (map (λ (u : ℕ). slice_index_or (map arc_value c.args.cells.now) u d)) (take_all c.loop-u.u-index c.args.points.now c.loop-u-test.false)
