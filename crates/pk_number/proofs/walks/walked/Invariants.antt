use Rattle.std.proofs.Common.{length}
use Rattle.pk_number.specs.Rows.{rows_view, ends_in}
use Rattle.pk_number.proofs.WaitLemmas.{Walking}
use Rattle.pk_number.proofs.walks.walked.Given as goal

abbrev pub invariant-loop-turn : goal.invariant-loop-turn
invariant-loop-turn l = Walking (ends_in (rows_view l.rows)) (length l.rows) l.turns l._turn l.marks.items l.waiting.items l.order.items
