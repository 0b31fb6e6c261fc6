use Rattle.pk_loop_laws.proofs.Functions.{loops_are_the_trees}
use Rattle.pk_loop_laws.proofs.laws.loops_are_the_trees.Goals as goal

pub returns : goal.returns
returns c = loops_are_the_trees
