use Rattle.pk_lower_laws.proofs.Parts.Behind.{numbers_tell_behind}
use Rattle.pk_lower_laws.proofs.laws.numbers_tell_behind.Goals as goal

pub returns : goal.returns
returns c = numbers_tell_behind
