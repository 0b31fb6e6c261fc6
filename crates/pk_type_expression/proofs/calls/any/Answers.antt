-- There are arguments.
use Rattle.std.proofs.Common.{sym}
use Rattle.pk_type_expression.proofs.ListLemmas.{none_of_some, not_zero}
use Rattle.pk_type_expression.proofs.calls.any.Goals as goal

pub returns-else-is_empty : goal.returns-else-is_empty
returns-else-is_empty c = sym (none_of_some c.args.arguments.now _ (not_zero _ c.if-is_empty.ensures))
