use Rattle.std.proofs.Common.{◌∙◌, ◌<◌}
use Rattle.pk_octops.proofs.Pointwise.{greater_matrix, other_in, table_all, table_more, table_none}
use Rattle.pk_octops.proofs.tables.join_cells.Goals as goal

pub loop-k-init : goal.loop-k-init
loop-k-init c = table_none _ c.args.cells.now c.args.other.now

pub loop-k-preserved : goal.loop-k-preserved
loop-k-preserved c =
    let below : c.loop-k.k < _ = c.loop-k-test.true in
    table_more _ _ _ _ _ _ _ _ c.loop-k.invariant below (other_in c.args.cells.now c.args.other.now c.args.d c.loop-k.k c.requires.whole.size c.requires.other.size below) c.index-cells-k.is c.index-other-k.is c.greater.ensures

pub returns-clause-value : goal.returns-clause-value
returns-clause-value c = table_all _ _ _ _ _ _ c.requires.pairs c.requires.whole.size c.loop-k.invariant c.loop-k-test.false

pub returns-clause-whole : goal.returns-clause-whole
returns-clause-whole c =
    greater_matrix c.args.d c.args.cells.now c.args.other.now c.loop-k.cells c.requires.pairs c.requires.whole c.requires.other (c.loop-k.invariant.size ∙ c.requires.whole.size)
    (table_all _ _ _ _ _ _ c.requires.pairs c.requires.whole.size c.loop-k.invariant c.loop-k-test.false)
