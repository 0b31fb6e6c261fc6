use Rattle.std.proofs.Common.{◌≡◌, ◌<◌, ℕ}
use Rattle.pk_octagons.specs.Values.{known_at}
use Rattle.pk_state.proofs.values.same_row.Given as goal

-- so many pass
abbrev pub invariant-loop-r : goal.invariant-loop-r
invariant-loop-r l = (y : ℕ) → y < l.r → known_at l.a y ≡ known_at l.b y
