use Rattle.pk_value.proofs.Tight.{tight_is_reduced}
use Rattle.pk_value.proofs.laws.tight_law.Goals as goal

pub returns : goal.returns
returns c = tight_is_reduced
