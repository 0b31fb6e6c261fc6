use Rattle.std.proofs.Common.{ℕ, ◌<◌, None, get_or}
use Rattle.pk_octmat.specs.Bounds.{AtMost}
use Rattle.pk_octops.proofs.tables.leq_cells.Given as goal

abbrev pub invariant-loop-k : goal.invariant-loop-k
invariant-loop-k l = (a : ℕ) → a < l.k → AtMost (get_or l.cells a None) (get_or l.other a None)
