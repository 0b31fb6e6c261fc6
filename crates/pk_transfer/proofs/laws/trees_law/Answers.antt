use Rattle.pk_transfer.proofs.Told.{trees_sound}
use Rattle.pk_transfer.proofs.laws.trees_law.Goals as goal

pub returns : goal.returns
returns c = trees_sound
