use Rattle.pk_operator_laws.proofs.Functions.{calls_are_the_trees}
use Rattle.pk_operator_laws.proofs.laws.calls_are_the_trees.Goals as goal

pub returns : goal.returns
returns c = calls_are_the_trees
