use Rattle.std.proofs.Common.{ap}
use Rattle.pk_number.specs.Rows.{rows_view}
use Rattle.pk_number.proofs.RowLemmas.{one_more_row}
use Rattle.pk_number.proofs.rows.empty_rows.Goals as goal

pub loop-row-init : goal.loop-row-init
loop-row-init c = ap rows_view c.in_ok-rows.ensures.items

pub loop-row-preserved : goal.loop-row-preserved
loop-row-preserved c = one_more_row c.loop-row.rows.items c.push.new.self.items c.loop-row._row c.new.result c.in_ok-push.ensures.items c.new.ensures.items c.loop-row.invariant
