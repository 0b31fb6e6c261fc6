use Rattle.std.proofs.Common.{sym, ◌∙◌}
use Rattle.pk_ctypes.proofs.TableLemmas.{row_found, row_passed, rows_passed}
use Rattle.pk_ctypes.proofs.spellings.look_up.Goals as goal

pub returns-then-is_spelled : goal.returns-then-is_spelled
returns-then-is_spelled g c =
    row_found c.args.table.now c.args.word.now c.loop-row.row-index c.row-item.result c.loop-row-test.true c.row-item.is
    (sym c.is_spelled.ensures ∙ c.if-is_spelled.true) c.loop-row.invariant

pub loop-row-preserved : goal.loop-row-preserved
loop-row-preserved g c =
    row_passed c.args.table.now c.args.word.now c.loop-row.row-index c.row-item.result c.loop-row-test.true c.row-item.is
    (sym c.is_spelled.ensures ∙ c.if-is_spelled.false) c.loop-row.invariant

pub returns : goal.returns
returns g c = rows_passed c.args.table.now c.args.word.now c.loop-row.row-index c.loop-row-test.false c.loop-row.invariant
