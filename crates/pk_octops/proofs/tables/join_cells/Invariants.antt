use Rattle.pk_octmat.specs.Bounds.{greater}
use Rattle.pk_octops.proofs.Pointwise.{InTable}
use Rattle.pk_octops.proofs.tables.join_cells.Given as goal

abbrev pub invariant-loop-k : goal.invariant-loop-k
invariant-loop-k l = InTable l.k greater l.fn.cells l.other l.cells
