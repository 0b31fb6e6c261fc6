use Rattle.pk_items.proofs.Over.{done_is_over}
use Rattle.pk_items.proofs.laws.done_is_over.Goals as goal

pub returns : goal.returns
returns g c = done_is_over (g.Y.System.meaning c.args.system.now)
