use Rattle.std.proofs.Common.{◌≡◌, ◌-◌}
use Rattle.pk_wrong_byte.specs.Pieces.{calls, path}
use Rattle.pk_wrong_byte.proofs.pieces.path.Given as goal

-- the calls that are left end there
abbrev pub invariant-loop-k : goal.invariant-loop-k
invariant-loop-k l = calls (l.count - l._k) l.there ≡ path l.r
