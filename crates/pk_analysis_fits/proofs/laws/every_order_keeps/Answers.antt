use Rattle.pk_analysis_fits.proofs.Scheduling.{every_order}
use Rattle.pk_analysis_fits.proofs.laws.every_order_keeps.Goals as goal

pub returns : goal.returns
returns g c = every_order (g.Y.System.meaning c.args.system.now)
