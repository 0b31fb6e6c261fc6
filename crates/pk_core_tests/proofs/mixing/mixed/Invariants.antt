use Rattle.std.proofs.Common.{◌≡◌, ◌<◌, map, drop}
use Rattle.std.specs.Arc.{arc_value}
use Rattle.pk_core_tests.specs.Mixing.{mixed_from}
use Rattle.pk_core_tests.proofs.mixing.mixed.Given as goal

abbrev pub invariant-loop-cell : goal.invariant-loop-cell
invariant-loop-cell l = record {
  left : mixed_from l.fn.first (map arc_value l.cells) ≡ mixed_from l.so_far (drop l.cell-index (map arc_value l.cells));
  few : l.so_far < 65521;
}
