use Rattle.std.proofs.Common.{◌≡◌, take, sum}
use Rattle.pk_cert_lines.proofs.parts.start.Given as goal

abbrev pub invariant-loop-k : goal.invariant-loop-k
invariant-loop-k l = l.at ≡ sum (take l.k l.sizes)
