use Rattle.std.proofs.Common.{◌≡◌, ◌<◌, ◌*◌, ℕ, length}
use Rattle.pk_state.specs.Changes.{known_in}
use Rattle.pk_cert_lines.specs.Told.{IsTextOf}
use Rattle.pk_cert_lines.proofs.lines.tell_values.Given as goal

-- the rows of variables so far are told
abbrev pub invariant-loop-k : goal.invariant-loop-k
invariant-loop-k l =
    IsTextOf l.order l.frame l.told × ((y : ℕ) → y < l.k * 16 → y < length l.order → known_in l.told.state.facts y ≡ known_in l.state.facts y)
