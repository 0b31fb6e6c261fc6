use Rattle.std.specs.Prelude.{◌≤◌, ◌+◌, ◌*◌}
use Rattle.pk_octclose.proofs.Rows.{InRows}
use Rattle.pk_octclose.proofs.paths.lower_rows.Given as goal

abbrev pub invariant-loop-i : goal.invariant-loop-i
invariant-loop-i g l = record {
  rows : InRows l.d l.p l.i l.fn.cells l.cells;
  steps : l.steps ≤ l.fn.steps + l.i * (2 * l.d);
}
