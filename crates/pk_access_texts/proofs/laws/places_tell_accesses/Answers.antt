use Rattle.pk_access_texts.proofs.Texts.{places_tell_accesses}
use Rattle.pk_access_texts.proofs.laws.places_tell_accesses.Goals as goal

pub returns : goal.returns
returns c = places_tell_accesses
