use Rattle.std.proofs.Common.{sym}
use Rattle.pk_draft.proofs.FoldingLemmas.{of_variable, of_converted, of_unary, of_binary}
use Rattle.pk_draft.proofs.folding.number_in.Goals as goal

pub returns-in-Variable : goal.returns-in-Variable
returns-in-Variable c = sym (of_variable c.args.tree.now c.in-Variable.field-0 c.in-Variable.is)

pub returns-in-Converted : goal.returns-in-Converted
returns-in-Converted c = sym (of_converted c.args.tree.now c.in-Converted.field-0 c.in-Converted.field-1.value c.in-Converted.is)

pub returns-in-Unary : goal.returns-in-Unary
returns-in-Unary c =
    sym (of_unary c.args.tree.now c.in-Unary.field-0 c.in-Unary.field-1 c.in-Unary.field-2 c.in-Unary.field-3.value c.in-Unary.is)

pub returns-in-Binary : goal.returns-in-Binary
returns-in-Binary c =
    sym (of_binary c.args.tree.now c.in-Binary.operator c.in-Binary.site c.in-Binary.int_type c.in-Binary.left.value c.in-Binary.right.value c.in-Binary.is)
