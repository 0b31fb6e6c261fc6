use Rattle.std.proofs.Common.{◌≡◌, replicate, []}
use Rattle.pk_number.specs.Rows.{rows_view}
use Rattle.pk_number.proofs.rows.empty_rows.Given as goal

abbrev pub invariant-loop-row : goal.invariant-loop-row
invariant-loop-row l = rows_view l.rows.items ≡ replicate l._row []
