use Rattle.pk_wrong_byte_laws.proofs.WrongPlace.{within, before, there}
use Rattle.pk_wrong_byte_laws.proofs.laws.first_wrong_byte_is_first.Goals as goal

pub returns : goal.returns
returns c = record { within = within; before = before; there = there }
