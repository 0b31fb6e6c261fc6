use Rattle.std.proofs.Common.{take}
use Rattle.pk_cert.specs.Pieces.{IsName}
use Rattle.pk_cert.proofs.pieces.name.Given as goal

abbrev pub invariant-loop-k : goal.invariant-loop-k
invariant-loop-k l = IsName (take l.k l.bytes)
