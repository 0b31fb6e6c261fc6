use Rattle.std.proofs.Common.{arith}
use Rattle.pk_octmat.specs.Half.{kept_at}
use Rattle.pk_octclose.proofs.Lowered.{line_read, own_others, own_written}
use Rattle.pk_octclose.proofs.after.lower_own.Goals as goal

pub returns-clause-lowered : goal.returns-clause-lowered
returns-clause-lowered g c = λ n s h.
    own_written c.args.r c.bar-q.result s c.args.a (kept_at c.args.d c.args.cells.now) c.args.line.now c.index-line-a.result c.index-line-r.result c.index-line-q.result c.plus.result c.plus-2.result c.cell.result c.cell-2.result c.lower_to.result c.lower_to-2.result
    c.requires.own (omega (arith, c.requires.row, c.requires.few)) (omega (arith, c.requires.row, c.requires.few, c.requires.pairs, c.bar-q.ensures)) c.bar-q.ensures h (line_read c.args.line.now c.args.a c.index-line-a.result c.requires.own (omega (arith, c.requires.place, c.requires.few)) c.index-line-a.is)
    c.index-line-r.is c.cell.ensures c.plus.ensures c.lower_to.ensures.value c.index-line-q.is c.cell-2.ensures c.plus-2.ensures c.lower_to-2.ensures.value

pub returns-clause-others : goal.returns-clause-others
returns-clause-others g c = λ b n. own_others c.args.r c.bar-q.result b c.args.line.now c.lower_to.result c.lower_to-2.result c.bar-q.ensures n
