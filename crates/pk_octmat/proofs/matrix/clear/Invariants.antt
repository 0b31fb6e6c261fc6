use Rattle.pk_octmat.specs.Half.{kept_at}
use Rattle.pk_octmat.proofs.Clearing.{Clearing}
use Rattle.pk_octmat.proofs.matrix.clear.Given as goal

abbrev pub invariant-loop-j : goal.invariant-loop-j
invariant-loop-j l = Clearing l.d l.p l.j (kept_at l.d l.fn.cells) l.cells
