use Rattle.std.proofs.Common.{◌≡◌, ◌<◌, ℕ, true}
use Rattle.pk_value.specs.Known.{is_within}
use Rattle.pk_octagons.specs.Values.{known_at}
use Rattle.pk_state.proofs.values.leq_row.Given as goal

-- so many pass
abbrev pub invariant-loop-r : goal.invariant-loop-r
invariant-loop-r l = (y : ℕ) → y < l.r → is_within (known_at l.a y) (known_at l.b y) ≡ true
