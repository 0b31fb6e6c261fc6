use Rattle.std.proofs.Common.{◌≡◌, ◌≤◌, length, take}
use Rattle.pk_cert.proofs.pieces.literal.Given as goal

abbrev pub invariant-loop-k : goal.invariant-loop-k
invariant-loop-k l = (l.k ≤ length l.bytes) × (take l.k l.bytes ≡ take l.k l.text)
