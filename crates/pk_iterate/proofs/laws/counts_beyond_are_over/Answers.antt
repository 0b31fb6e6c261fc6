use Rattle.pk_iterate.proofs.Whole.{count_over}
use Rattle.pk_iterate.proofs.laws.counts_beyond_are_over.Goals as goal

pub returns : goal.returns
returns g c = count_over (g.Y.System.meaning c.args.system.now)
