use Rattle.pk_octpoints.proofs.Best.{tight_best}
use Rattle.pk_octpoints.proofs.laws.tight_is_best.Goals as goal

pub returns : goal.returns
returns c = tight_best
