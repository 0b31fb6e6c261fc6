use Rattle.std.proofs.Common.{◌≡◌, ◌+◌, [], take, drop}
use Rattle.pk_wrong_byte.specs.Pieces.{passing, begins_number}
use Rattle.pk_wrong_byte.proofs.pieces.number_size.Given as goal

-- each beginning so far passes
abbrev pub invariant-loop-k : goal.invariant-loop-k
invariant-loop-k l = l.k + passing begins_number (take l.k l.text) (drop l.k l.text) ≡ passing begins_number [] l.text
