use Rattle.std.specs.Prelude.{◌≤◌, ◌+◌, ◌*◌}
use Rattle.pk_octmat.specs.Half.{kept_at}
use Rattle.pk_octclose.specs.Closing.{tight}
use Rattle.pk_octclose.proofs.Swept.{Swept}
use Rattle.pk_octclose.proofs.tight.tighten_all.Given as goal

abbrev pub invariant-loop-i : goal.invariant-loop-i
invariant-loop-i g l = record {
  swept : Swept l.d l.i 0 (kept_at l.d l.fn.cells) (tight (kept_at l.d l.fn.cells)) l.cells;
  steps : l.steps ≤ l.fn.steps + l.i * l.d;
}

abbrev pub invariant-loop-j : goal.invariant-loop-j
invariant-loop-j g l = record {
  swept : Swept l.d l.i l.j (kept_at l.d l.fn.cells) (tight (kept_at l.d l.fn.cells)) l.cells;
  steps : l.steps ≤ l.fn.steps + l.i * l.d + l.j;
}
