use Rattle.pk_octmat.specs.Half.{kept_at}
use Rattle.std.proofs.Common.{arith}
use Rattle.pk_octclose.proofs.Rows.{copy_more, copy_none}
use Rattle.pk_octclose.proofs.paths.copy_row.Goals as goal

pub loop-j-init : goal.loop-j-init
loop-j-init c = copy_none (kept_at c.args.d c.args.cells.now c.args.k) c.args.row.now c.requires.own

pub loop-j-preserved : goal.loop-j-preserved
loop-j-preserved c = copy_more _ _ _ _ c.loop-j.invariant (omega (arith, c.loop-j-test.true, c.if-d-le128.true)) c.cell.ensures
