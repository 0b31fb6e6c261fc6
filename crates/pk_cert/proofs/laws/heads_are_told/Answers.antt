use Rattle.pk_cert.proofs.Heading.{heads_told}
use Rattle.pk_cert.proofs.laws.heads_are_told.Goals as goal

pub returns : goal.returns
returns c = heads_told
