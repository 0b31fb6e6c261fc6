use Rattle.pk_octmat.specs.Half.{kept_at}
use Rattle.pk_octclose.proofs.Rows.{InCopy}
use Rattle.pk_octclose.proofs.paths.copy_row.Given as goal

abbrev pub invariant-loop-j : goal.invariant-loop-j
invariant-loop-j l = InCopy l.j (kept_at l.d l.cells l.k) l.row
