use Rattle.pk_interval.proofs.Fits.{converts}
use Rattle.pk_interval.proofs.laws.conversion_law.Goals as goal

pub returns : goal.returns
returns c = converts
