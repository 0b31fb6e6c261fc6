use Rattle.std.specs.Prelude.{◌<◌, ◌≤◌, ◌/◌, ◌^◌}
use Rattle.std.proofs.Common.{arith, refl, subst, sym}
use Rattle.pk_octmat.specs.Bounds.{IsNear}
use Rattle.pk_octmat.specs.Octagon.{bar}
use Rattle.pk_octmat.specs.Half.{kept_at}
use Rattle.pk_octclose.specs.Closing.{tight}
use Rattle.pk_octclose.proofs.Halves.{tight_back, tight_kept, tight_own, tight_read}
use Rattle.pk_octclose.proofs.Swept.{swept_all, swept_more, swept_none, swept_row}
use Rattle.pk_octclose.proofs.tight.tighten_all.Goals as goal

pub loop-i-init : goal.loop-i-init
loop-i-init g c = record { swept = swept_none c.args.d (tight (kept_at c.args.d c.args.cells.now)) c.args.cells.now c.requires.size; steps = omega arith }

pub plus-both-requires-clause-left : goal.plus-both-requires-clause-left
plus-both-requires-clause-left g c =
    subst (λ o. IsNear (2 ^ 100) o) (sym (tight_own c.args.d c.loop-i.i 0 c.bar.result (kept_at c.args.d c.args.cells.now) c.loop-i.cells c.cell-own.result c.loop-i.invariant.swept c.loop-i-test.true c.cell-own.ensures c.bar.ensures))
    (c.requires.near c.loop-i.i (bar c.loop-i.i) c.loop-i-test.true (omega (arith, c.requires.pairs, c.loop-i-test.true)))

pub plus-both-requires-clause-right : goal.plus-both-requires-clause-right
plus-both-requires-clause-right g c =
    let within : bar c.loop-j.j < c.args.d = omega (arith, c.requires.pairs, c.loop-i-test.true, c.loop-j-test.true) in
    subst (λ o. IsNear (2 ^ 100) o) (sym (tight_back c.args.d c.loop-i.i c.loop-j.j c.loop-j.j c.bar-in-loop-j.result (kept_at c.args.d c.args.cells.now) c.loop-j.cells c.cell.result c.loop-j.invariant.swept within c.cell.ensures c.bar-in-loop-j.ensures))
    (c.requires.near (bar c.loop-j.j) c.loop-j.j within (omega (arith, c.requires.pairs, c.loop-i-test.true, c.loop-j-test.true)))

pub loop-j-preserved : goal.loop-j-preserved
loop-j-preserved g c =
    let e = kept_at c.args.d c.args.cells.now in
    let low : c.loop-j.j / 2 ≤ c.loop-i.i / 2 = omega (arith, c.loop-j-test.true) in
    let within : bar c.loop-j.j < c.args.d = omega (arith, c.requires.pairs, c.loop-i-test.true, c.loop-j-test.true) in
    record {
      swept =
          swept_more c.args.d c.loop-i.i c.loop-j.j e (tight e) c.loop-j.cells c.lower_cell.new.cells c.loop-j.invariant.swept low c.lower_cell.ensures.kept
          (tight_read c.args.d c.loop-i.i c.loop-j.j e c.loop-j.cells _ _ _ _ _ _ c.loop-j.invariant.swept c.loop-i-test.true low refl (tight_own c.args.d c.loop-i.i 0 c.bar.result (kept_at c.args.d c.args.cells.now) c.loop-i.cells c.cell-own.result c.loop-i.invariant.swept c.loop-i-test.true c.cell-own.ensures c.bar.ensures)
          (tight_back c.args.d c.loop-i.i c.loop-j.j c.loop-j.j c.bar-in-loop-j.result (kept_at c.args.d c.args.cells.now) c.loop-j.cells c.cell.result c.loop-j.invariant.swept within c.cell.ensures c.bar-in-loop-j.ensures) c.plus-both.ensures c.halved.ensures c.lower_cell.ensures.here)
          c.lower_cell.ensures.others;
      steps = omega (arith, c.loop-j.invariant.steps, c.lower_cell.ensures.steps);
    }

pub loop-i-preserved : goal.loop-i-preserved
loop-i-preserved g c = record { swept = swept_row _ _ _ _ _ _ c.loop-j.invariant.swept c.loop-j-test.false; steps = omega (arith, c.loop-j.invariant.steps, c.loop-j.auto.j-end, c.loop-i-test.true, c.requires.pairs) }

pub returns-clause-value : goal.returns-clause-value
returns-clause-value g c = tight_kept c.args.d c.args.cells.now c.loop-i.cells c.requires.pairs (swept_all _ _ _ _ _ _ c.loop-i.invariant.swept c.loop-i-test.false)
