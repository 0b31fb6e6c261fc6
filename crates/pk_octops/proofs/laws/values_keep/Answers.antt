use Rattle.pk_octops.proofs.Kept.{values_kept}
use Rattle.pk_octops.proofs.laws.values_keep.Goals as goal

pub returns : goal.returns
returns c = values_kept
