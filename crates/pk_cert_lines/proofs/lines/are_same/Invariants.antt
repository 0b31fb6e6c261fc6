use Rattle.std.proofs.Common.{◌≡◌, ◌<◌, ◌*◌, ℕ}
use Rattle.pk_state.specs.Changes.{entry_in}
use Rattle.pk_cert_lines.proofs.lines.are_same.Given as goal

abbrev pub invariant-loop-i : goal.invariant-loop-i
invariant-loop-i l = (i j : ℕ) → i < l.i → j < 2 * l.n → entry_in l.a.facts 0 i j ≡ entry_in l.b.facts 0 i j

abbrev pub invariant-loop-j : goal.invariant-loop-j
invariant-loop-j l =
    ((i j : ℕ) → i < l.i → j < 2 * l.n → entry_in l.a.facts 0 i j ≡ entry_in l.b.facts 0 i j)
    × ((j : ℕ) → j < l.j → entry_in l.a.facts 0 l.i j ≡ entry_in l.b.facts 0 l.i j)
