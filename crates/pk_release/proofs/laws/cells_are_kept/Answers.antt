use Rattle.pk_release.proofs.Counting.{cells_are_kept}
use Rattle.pk_release.proofs.laws.cells_are_kept.Goals as goal

pub returns : goal.returns
returns g c = cells_are_kept (g.Y.System.meaning c.args.system.now)
