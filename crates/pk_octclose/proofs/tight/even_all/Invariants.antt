use Rattle.std.specs.Prelude.{◌≡◌, ◌+◌}
use Rattle.pk_octmat.specs.Half.{kept_at}
use Rattle.pk_octclose.proofs.Halves.{InEven}
use Rattle.pk_octclose.proofs.tight.even_all.Given as goal

abbrev pub invariant-loop-i : goal.invariant-loop-i
invariant-loop-i g l = record {
  even : InEven l.d l.i (kept_at l.d l.fn.cells) l.cells;
  steps : l.steps ≡ l.fn.steps + l.i;
}
