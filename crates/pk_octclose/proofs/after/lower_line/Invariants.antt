use Rattle.std.specs.Prelude.{◌≤◌, ◌+◌}
use Rattle.pk_octclose.proofs.Lowered.{InRun}
use Rattle.pk_octmat.specs.Half.{kept_at}
use Rattle.pk_octclose.proofs.after.lower_line.Given as goal

abbrev pub invariant-loop-b : goal.invariant-loop-b
invariant-loop-b g l = record {
  line : InRun l.b l.first (kept_at l.d l.cells l.a) l.fn.line l.line;
  steps : l.steps ≤ l.fn.steps + l.b;
}
