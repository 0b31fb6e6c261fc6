use Rattle.pk_cert.proofs.EveryHead.{every_head_ends}
use Rattle.pk_cert.proofs.laws.every_head_ends.Goals as goal

pub returns : goal.returns
returns c = every_head_ends
