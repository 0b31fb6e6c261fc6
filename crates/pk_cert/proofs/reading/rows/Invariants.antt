use Rattle.pk_cert.proofs.Lines.{LinesSo}
use Rattle.pk_cert.proofs.reading.rows.Given as goal

-- the lines of the bytes so far
abbrev pub invariant-loop-k : goal.invariant-loop-k
invariant-loop-k l = LinesSo l.shape l.points l.bytes l.rows.items l.k l.at
