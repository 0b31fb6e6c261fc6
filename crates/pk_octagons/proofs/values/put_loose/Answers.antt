use Rattle.pk_octagons.proofs.Bounding.{marked_put}
use Rattle.pk_octagons.proofs.values.put_loose.Goals as goal

pub returns-clause-marked : goal.returns-clause-marked
returns-clause-marked c = rw c.in_ok-set.ensures.ok (rw c.in_ok-push.ensures.items (marked_put c.args.values.now c.args.loose.now.items c.args.x c.args.new c.requires.marked))
