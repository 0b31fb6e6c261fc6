use Rattle.pk_unit_laws.proofs.Derived.{places_are_the_tokens}
use Rattle.pk_unit_laws.proofs.laws.places_are_the_tokens.Goals as goal

pub returns : goal.returns
returns c = places_are_the_tokens
