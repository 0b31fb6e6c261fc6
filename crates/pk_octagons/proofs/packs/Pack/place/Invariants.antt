use Rattle.std.specs.Prelude.{ℕ, ◌<◌, ◌≢◌}
use Rattle.pk_octagons.specs.Packs.{chosen_at}
use Rattle.pk_octagons.proofs.packs.Pack.place.Given as goal

-- none of so many
abbrev pub invariant-loop-k : goal.invariant-loop-k
invariant-loop-k l = (j : ℕ) → j < l.k → chosen_at l.self j ≢ l.x
