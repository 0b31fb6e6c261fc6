use Rattle.std.proofs.Common.{◌≡◌, ◌<◌, ◌≤◌, ℕ}
use Rattle.pk_state.specs.Changes.{known_in}
use Rattle.pk_cert_lines.specs.Told.{IsTextOf}
use Rattle.pk_cert_lines.proofs.lines.tell_row.Given as goal

-- the variables of the row so far are told, and those before it as they were
abbrev pub invariant-loop-y : goal.invariant-loop-y
invariant-loop-y l =
    IsTextOf l.order l.frame l.told × (l.x ≤ l.y) × ((y : ℕ) → y < l.x → known_in l.told.state.facts y ≡ known_in l.fn.told.state.facts y)
    × ((y : ℕ) → l.x ≤ y → y < l.y → known_in l.told.state.facts y ≡ known_in l.state.facts y)
