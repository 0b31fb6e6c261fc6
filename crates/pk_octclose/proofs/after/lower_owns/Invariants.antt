use Rattle.std.specs.Prelude.{◌≤◌, ◌+◌, ◌*◌}
use Rattle.std.proofs.Common.{None, get_or}
use Rattle.pk_octclose.proofs.Lowered.{InOwn}
use Rattle.pk_octmat.specs.Half.{kept_at}
use Rattle.pk_octclose.proofs.after.lower_owns.Given as goal

abbrev pub invariant-loop-a : goal.invariant-loop-a
invariant-loop-a g l = record {
  line : InOwn l.d l.r l.a (kept_at l.d l.cells) (λ b. get_or l.fn.line b None) l.line;
  steps : l.steps ≤ l.fn.steps + 2 * l.a;
}
