use Rattle.pk_operator_laws.proofs.Functions.{operators_are_the_trees}
use Rattle.pk_operator_laws.proofs.laws.operators_are_the_trees.Goals as goal

pub returns : goal.returns
returns c = operators_are_the_trees
