use Rattle.std.proofs.Common.{map}
use Rattle.pk_draft.specs.Answers.{edge_view}
use Rattle.pk_number.specs.Rows.{rows_view, AreRows}
use Rattle.pk_number.proofs.rows.rows_of.Given as goal

abbrev pub invariant-loop-edge : goal.invariant-loop-edge
invariant-loop-edge l = AreRows l.count (map edge_view l.yielded) (rows_view l.rows.items)
