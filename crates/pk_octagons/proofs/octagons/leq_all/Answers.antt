use Rattle.std.proofs.Common.{◌<◌, sym, subst, refl, arith, below_more, length}
use Rattle.pk_octops.specs.Tables.{IsBelow}
use Rattle.pk_blocks.proofs.Merging.{never}
use Rattle.pk_octagons.specs.Octagons.{octagon_at}
use Rattle.pk_octagons.proofs.Zips.{same_width, same_lengths, read_is}
use Rattle.pk_octagons.proofs.octagons.leq_all.Goals as goal

pub leq-requires : goal.leq-requires
leq-requires c = sym (same_width c.args.a.now c.args.b.now c.loop-p.p c.index-a-p.result c.index-b-p.result c.requires c.loop-p-test.true c.index-a-p.is c.index-b-p.is)

pub returns-then-not-leq : goal.returns-then-not-leq
returns-then-not-leq c =
    let a = c.args.a.now in
    let b = c.args.b.now in
    let p = c.loop-p.p in
    let other : p < length b = omega (arith, c.loop-p-test.true, same_lengths a b c.requires) in (
      λ e. absurd (never _ refl e),
      λ h. absurd (never _ c.if-not-leq.true
          (c.leq.ensures.1 (rw (read_is a p c.index-a-p.result c.loop-p-test.true c.index-a-p.is, read_is b p c.index-b-p.result other c.index-b-p.is) (h p c.loop-p-test.true)))),
    )

pub loop-p-preserved : goal.loop-p-preserved
loop-p-preserved c =
    let a = c.args.a.now in
    let b = c.args.b.now in
    let p = c.loop-p.p in
    let other : p < length b = omega (arith, c.loop-p-test.true, same_lengths a b c.requires) in
    below_more _ _ c.loop-p.invariant
    (subst (λ m. IsBelow m (octagon_at b p)) (read_is a p c.index-a-p.result c.loop-p-test.true c.index-a-p.is)
    (subst (λ m. IsBelow c.index-a-p.result m) (read_is b p c.index-b-p.result other c.index-b-p.is) (c.leq.ensures.0 c.if-not-leq.false)))

pub returns : goal.returns
returns c = (λ e p h. c.loop-p.invariant p (omega (arith, h, c.loop-p-test.false)), λ e. refl)
