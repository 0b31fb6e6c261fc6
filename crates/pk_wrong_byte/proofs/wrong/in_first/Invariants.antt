use Rattle.std.proofs.Common.{◌≡◌, drop, map, None}
use Rattle.pk_wrong_byte.specs.Wrong.{in_first}
use Rattle.pk_wrong_byte.proofs.wrong.in_first.Given as goal

-- it depends on the rest
abbrev pub invariant-loop-k : goal.invariant-loop-k
invariant-loop-k l =
    in_first (map (λ line. line.now) (drop l.k l.ended)) l.last l.before ≡ in_first (map (λ line. line.now) l.ended) l.last None
