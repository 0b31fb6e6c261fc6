use Rattle.pk_peak_laws.proofs.Lining.{every_order}
use Rattle.pk_peak_laws.proofs.laws.every_order_has_a_line.Goals as goal

pub returns : goal.returns
returns g c = every_order (g.Y.System.meaning c.args.system.now)
