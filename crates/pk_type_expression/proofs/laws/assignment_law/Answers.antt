-- by the mentions of the left side
use Rattle.pk_type_expression.proofs.SequenceLemmas.{assignments_are_the_table}
use Rattle.pk_type_expression.proofs.laws.assignment_law.Goals as goal

pub returns : goal.returns
returns c = assignments_are_the_table
