use Rattle.std.proofs.Common.{◌∙◌, arith}
use Rattle.pk_octagons.proofs.Placing.{placed_more}
use Rattle.pk_octagons.proofs.packs.placed.Goals as goal

pub loop-p-preserved : goal.loop-p-preserved
loop-p-preserved c = (c.in_ok-add_places.ensures.size ∙ c.loop-p.invariant.0, λ x h. placed_more c.args.packs.now c.loop-p.p x c.index-packs-p.result _ _ c.loop-p-test.true c.index-packs-p.is (c.in_ok-add_places.ensures.value x (omega (arith, h, c.loop-p.invariant.0))) (c.loop-p.invariant.1 x h))
