use Rattle.std.specs.Prelude.{◌≤◌, ◌+◌, ◌*◌}
use Rattle.pk_octclose.proofs.Lowered.{InLine}
use Rattle.pk_octmat.specs.Half.{kept_at}
use Rattle.pk_octclose.proofs.after.lower_lines.Given as goal

abbrev pub invariant-loop-a : goal.invariant-loop-a
invariant-loop-a g l = record {
  line : InLine l.d l.r l.a (kept_at l.d l.cells) l.line;
  steps : l.steps ≤ l.fn.steps + l.a * l.d;
}
