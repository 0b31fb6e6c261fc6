use Rattle.std.proofs.Common.{arith}
use Rattle.pk_octmat.specs.Bounds.{capped}
use Rattle.pk_octmat.proofs.Half.{kept_each}
use Rattle.pk_octclose.proofs.tight.cap_all.Goals as goal

pub returns-clause-value : goal.returns-clause-value
returns-clause-value g c =
    kept_each c.args.d c.args.cells.now c.args.cells.now c.loop-cell.cells (λ x y. capped x) c.requires.pairs c.requires.size (λ k h. c.loop-cell.invariant.done k (omega (arith, h, c.loop-cell-test.false)))
