use Rattle.std.proofs.Common.{ℕ, ◌<◌, Some}
use Rattle.std.specs.Prelude.{pos, ◌≤◌, ◌+◌}
use Rattle.pk_octmat.specs.Bounds.{AtMost}
use Rattle.pk_octmat.specs.Half.{kept_at}
use Rattle.pk_octclose.proofs.paths.is_nonnegative.Given as goal

abbrev pub invariant-loop-i : goal.invariant-loop-i
invariant-loop-i g l = record {
  each : (k : ℕ) → k < l.i → AtMost (Some (pos 0)) (kept_at l.d l.cells k k);
  steps : l.steps ≤ l.fn.steps + l.i;
}
