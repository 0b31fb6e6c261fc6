use Rattle.std.proofs.Common.{◌≡◌, ◌+◌, [], take, drop}
use Rattle.pk_wrong_byte.specs.Pieces.{passing, is_count}
use Rattle.pk_wrong_byte.proofs.pieces.count_size.Given as goal

-- each beginning so far passes
abbrev pub invariant-loop-k : goal.invariant-loop-k
invariant-loop-k l = l.k + passing is_count (take l.k l.text) (drop l.k l.text) ≡ passing is_count [] l.text
