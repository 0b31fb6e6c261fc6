use Rattle.pk_congr.proofs.Held.{power_is}
use Rattle.pk_congr.proofs.operators.power.Goals as goal

pub returns : goal.returns
returns c = power_is c.args.t c.args.b c.requires
