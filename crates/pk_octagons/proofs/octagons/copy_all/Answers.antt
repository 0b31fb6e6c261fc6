use Rattle.std.proofs.Common.{◌∙◌}
use Rattle.std.proofs.lemmas.List.{take_all}
use Rattle.pk_octagons.proofs.Zips.{kept_more}
use Rattle.pk_octagons.proofs.octagons.copy_all.Goals as goal

pub loop-octagon-preserved : goal.loop-octagon-preserved
loop-octagon-preserved c = rw c.in_ok-push.ensures.items (kept_more c.loop-octagon.octagon-index c.loop-octagon.out.items c.args.all.now c.octagon-item.result _ c.loop-octagon.invariant c.loop-octagon-test.true c.octagon-item.is c.in_ok-copy.ensures)

pub returns : goal.returns
returns c = c.loop-octagon.invariant ∙ take_all c.loop-octagon.octagon-index c.args.all.now c.loop-octagon-test.false
