use Rattle.std.proofs.Common.{◌≡◌, ◌<◌, ◌*◌, ℕ, true, length}
use Rattle.pk_value.specs.Known.{is_within}
use Rattle.pk_octagons.specs.Values.{known_at}
use Rattle.pk_state.proofs.values.leq_values.Given as goal

-- so many rows pass
abbrev pub invariant-loop-k : goal.invariant-loop-k
invariant-loop-k l = (y : ℕ) → y < l.k * 16 → y < length l.a → is_within (known_at l.a y) (known_at l.b y) ≡ true
