use Rattle.std.proofs.Common.{◌<◌, ℕ}
use Rattle.pk_cert_states.specs.Parts.{IsBound}
use Rattle.pk_cert_states.proofs.bounds.are_bounds.Given as goal

abbrev pub invariant-loop-j : goal.invariant-loop-j
invariant-loop-j l = ((a b : ℕ) → a < l.i → b < l.d → IsBound l.symbols l.d a b) × ((b : ℕ) → b < l.j → IsBound l.symbols l.d l.i b)

abbrev pub invariant-loop-i : goal.invariant-loop-i
invariant-loop-i l = (a b : ℕ) → a < l.i → b < l.d → IsBound l.symbols l.d a b
