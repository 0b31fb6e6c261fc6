use Rattle.pk_release.proofs.Going.{every_plan_has_a_line}
use Rattle.pk_release.proofs.laws.every_plan_has_a_line.Goals as goal

pub returns : goal.returns
returns g c = every_plan_has_a_line (g.Y.System.meaning c.args.system.now)
