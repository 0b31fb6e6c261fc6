use Rattle.std.specs.Prelude.{◌+◌}
use Rattle.std.proofs.Common.{subst, sym, set}
use Rattle.pk_octmat.specs.Half.{kept_at}
use Rattle.pk_octmat.proofs.Clearing.{Clearing, clearing_all, clearing_more, clearing_none}
use Rattle.pk_octmat.proofs.matrix.clear.Goals as goal

pub loop-j-init : goal.loop-j-init
loop-j-init c = clearing_none c.args.d c.args.p c.args.cells.now c.requires.size

pub loop-j-preserved : goal.loop-j-preserved
loop-j-preserved c =
    subst (λ k. Clearing c.args.d c.args.p (c.loop-j.j + 1) (kept_at c.args.d c.args.cells.now) (set c.loop-j.cells k c.unbounded.result)) (sym c.spot.ensures)
    (clearing_more _ _ _ _ _ _ c.loop-j.invariant c.requires.pairs c.requires.place c.loop-j-test.true c.requires.zero c.unbounded.ensures)

pub returns-clause-value : goal.returns-clause-value
returns-clause-value c = clearing_all _ _ _ _ _ c.loop-j.invariant c.requires.pairs c.loop-j-test.false
