use Rattle.pk_interval.proofs.Numbers.{left_back}
use Rattle.pk_interval.proofs.scalars.left.Goals as goal

pub returns : goal.returns
returns c = left_back c.args.t c.args.x c.args.count c.requires.number c.requires.from c.requires.least c.requires.most
