use Rattle.std.specs.Prelude.{◌+◌, ◌*◌}
use Rattle.pk_octmat.specs.Half.{kept_at}
use Rattle.pk_octmat.proofs.Pair.{InPair}
use Rattle.pk_octops.specs.Assigns.{moved}
use Rattle.pk_octops.proofs.assigns.move_cells.Given as goal

abbrev pub invariant-loop-j : goal.invariant-loop-j
invariant-loop-j l = InPair l.d (2 * l.k) l.j (moved (kept_at l.d l.old) l.k l.t l.c (2 * l.k)) (moved (kept_at l.d l.old) l.k l.t l.c (2 * l.k + 1)) l.old l.cells
