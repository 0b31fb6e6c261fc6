use Rattle.std.proofs.Common.{None, get_or}
use Rattle.pk_octmat.proofs.Pair.{InPair}
use Rattle.pk_octclose.proofs.after.write_rows.Given as goal

abbrev pub invariant-loop-j : goal.invariant-loop-j
invariant-loop-j l = InPair l.d l.p l.j (λ b. get_or l.first b None) (λ b. get_or l.second b None) l.fn.cells l.cells
