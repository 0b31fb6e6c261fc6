use Rattle.pk_operator_laws.proofs.Derived.{operators_are_the_tokens}
use Rattle.pk_operator_laws.proofs.laws.operators_are_the_tokens.Goals as goal

pub returns : goal.returns
returns c = operators_are_the_tokens
