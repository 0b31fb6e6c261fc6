use Rattle.pk_iterate.proofs.Settles.{whole_settled}
use Rattle.pk_iterate.proofs.laws.whole_is_settled.Goals as goal

pub returns : goal.returns
returns g c = whole_settled (g.Y.System.meaning c.args.system.now)
