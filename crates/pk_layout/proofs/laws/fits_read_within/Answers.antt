use Rattle.pk_layout.proofs.Existing.{reads_within}
use Rattle.pk_layout.proofs.laws.fits_read_within.Goals as goal

pub returns : goal.returns
returns g c = reads_within (g.Y.System.meaning c.args.system.now)
