use Rattle.std.proofs.Common.{◌≡◌, ◌+◌, All, length}
use Rattle.std.specs.Arc.{arc_value}
use Rattle.pk_board.proofs.copies.copied.Given as goal

abbrev pub invariant-loop-made : goal.invariant-loop-made
invariant-loop-made g l = record {
  many : length l.further.items + 1 ≡ l.made;
  same : All (λ x. arc_value x ≡ arc_value l.cell) l.further.items;
}
