use Rattle.pk_type.proofs.PlaceLemmas.{next, places_step, places_done}
use Rattle.pk_type.proofs.bodies.note_all.Goals as goal

pub loop-at-preserved : goal.loop-at-preserved
loop-at-preserved c = places_step c.args.rule _ _ _ _ _ _ (next c.args.places.now c.loop-at.at-index _ c.loop-at-test.true) c.fail_if.ensures c.loop-at.invariant

pub returns : goal.returns
returns c = places_done c.args.rule c.args.places.now c.loop-at.at-index _ _ c.loop-at-test.false c.loop-at.invariant
