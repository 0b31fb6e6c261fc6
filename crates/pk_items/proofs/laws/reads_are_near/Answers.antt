use Rattle.pk_items.proofs.Nearby.{reads_are_near}
use Rattle.pk_items.proofs.laws.reads_are_near.Goals as goal

pub returns : goal.returns
returns g c = reads_are_near (g.Y.System.meaning c.args.system.now)
