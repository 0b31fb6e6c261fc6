use Rattle.pk_analysis_fits.proofs.Scheduling.{as_iterated}
use Rattle.pk_analysis_fits.proofs.laws.ends_as_iterated.Goals as goal

pub returns : goal.returns
returns g c = as_iterated (g.Y.System.meaning c.args.system.now)
