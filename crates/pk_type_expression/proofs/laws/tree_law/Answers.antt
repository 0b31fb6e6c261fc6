-- by induction on the expression
use Rattle.pk_type_expression.proofs.TreeLemmas.{accepted_expressions_have_trees}
use Rattle.pk_type_expression.proofs.laws.tree_law.Goals as goal

pub returns : goal.returns
returns c = accepted_expressions_have_trees
