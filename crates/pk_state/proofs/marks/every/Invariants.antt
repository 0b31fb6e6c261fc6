use Rattle.std.proofs.Common.{ℕ, ◌<◌}
use Rattle.pk_octagons.specs.Values.{IsListed}
use Rattle.pk_state.proofs.marks.every.Given as goal

-- so many are listed
abbrev pub invariant-loop-x : goal.invariant-loop-x
invariant-loop-x l = (y : ℕ) → y < l.x → IsListed l.out.items y
