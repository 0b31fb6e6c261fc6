use Rattle.std.proofs.Common.{◌≡◌, ◌++◌, drop, map}
use Rattle.std.specs.Option.{option_map}
use Rattle.pk_show.specs.Paths.{calls_in}
use Rattle.pk_show.proofs.paths.calls.Given as goal

-- the calls so far stand before those of the rest
abbrev pub invariant-loop-k : goal.invariant-loop-k
invariant-loop-k l =
    option_map (λ rest. l.calls.items ++ rest) (calls_in (map (λ part. part.now) (drop l.k l.parts))) ≡ calls_in (map (λ part. part.now) l.parts)
