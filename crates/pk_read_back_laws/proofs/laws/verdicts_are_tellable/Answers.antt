use Rattle.pk_read_back_laws.proofs.StateLemmas.{verdicts_are_tellable}
use Rattle.pk_read_back_laws.proofs.laws.verdicts_are_tellable.Goals as goal

pub returns : goal.returns
returns c = verdicts_are_tellable
