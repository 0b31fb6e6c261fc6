use Rattle.pk_iterate.proofs.Ended.{trace_is_one}
use Rattle.pk_iterate.proofs.laws.trace_is_one.Goals as goal

pub returns : goal.returns
returns g c = trace_is_one (g.Y.System.meaning c.args.system.now)
