use Rattle.std.specs.Prelude.{◌<◌, ◌≤◌, ◌+◌, ◌-◌}
use Rattle.pk_octclose.proofs.Rows.{InPart}
use Rattle.pk_octclose.proofs.paths.lower_part.Given as goal

abbrev pub invariant-loop-j : goal.invariant-loop-j
invariant-loop-j g l = record {
  part : InPart l.d l.k l.i l.start l.j l.first l.fn.cells l.cells;
  steps : l.steps ≤ l.fn.steps + (l.j - l.start);
  none : l.end < l.start → l.steps ≤ l.fn.steps;
}
