use Rattle.std.proofs.Common.{◌≡◌, ◌<◌, ℕ}
use Rattle.pk_octagons.specs.Packs.{chosen_at}
use Rattle.pk_octagons.specs.Values.{known_at}
use Rattle.pk_octagons.specs.Reduced.{by_range}
use Rattle.pk_octagons.proofs.lowering.are_lowered.Given as goal

-- so many lower nothing
abbrev pub invariant-loop-k : goal.invariant-loop-k
invariant-loop-k l = (j : ℕ) → j < l.k → by_range l.m j (known_at l.values (chosen_at l.pack j)).range ≡ l.m
