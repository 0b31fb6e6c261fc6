use Rattle.pk_core.proofs.Kept_to.{every_list}
use Rattle.pk_core.proofs.laws.every_list_keeps.Goals as goal

pub returns : goal.returns
returns g c = every_list (g.Y.System.meaning c.args.system.now)
