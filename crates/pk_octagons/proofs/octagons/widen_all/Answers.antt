use Rattle.pk_octops.specs.Tables.{widening_of}
use Rattle.pk_octagons.proofs.Zips.{same_width, zipped_more}
use Rattle.pk_octagons.proofs.octagons.widen_all.Goals as goal

pub widen-requires : goal.widen-requires
widen-requires c = same_width c.args.a.now c.args.b.now c.loop-p.p c.index-a-p.result c.index-b-p.result c.requires c.loop-p-test.true c.index-a-p.is c.index-b-p.is

pub loop-p-preserved : goal.loop-p-preserved
loop-p-preserved c =
    zipped_more widening_of c.args.a.now c.args.b.now c.loop-p.out.items c.push.new.self.items c.loop-p.p c.index-a-p.result c.index-b-p.result c.in_ok-widen.field-0 c.loop-p.invariant c.loop-p-test.true c.requires c.index-a-p.is c.index-b-p.is
    c.in_ok-widen.ensures c.in_ok-push.ensures.items
