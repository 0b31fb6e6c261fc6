use Rattle.pk_octops.specs.Tables.{widened}
use Rattle.pk_octops.proofs.Pointwise.{InTable}
use Rattle.pk_octops.proofs.tables.widen_cells.Given as goal

abbrev pub invariant-loop-k : goal.invariant-loop-k
invariant-loop-k l = InTable l.k widened l.fn.cells l.other l.cells
