use Rattle.pk_layout.proofs.Existing.{every_plan}
use Rattle.pk_layout.proofs.laws.every_plan_is_wired.Goals as goal

pub returns : goal.returns
returns g c = every_plan (g.Y.System.meaning c.args.system.now)
