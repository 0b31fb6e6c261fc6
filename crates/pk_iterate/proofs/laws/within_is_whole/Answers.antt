use Rattle.pk_iterate.proofs.Whole.{within_whole}
use Rattle.pk_iterate.proofs.laws.within_is_whole.Goals as goal

pub returns : goal.returns
returns g c = within_whole (g.Y.System.meaning c.args.system.now)
