use Rattle.std.specs.Prelude.{◌/◌}
use Rattle.std.proofs.Common.{◌≡◌, ◌*◌, length}
use Rattle.pk_octmat.specs.Half.{block, kept_at}
use Rattle.pk_octclose.proofs.Walks.{Below, Through}
use Rattle.pk_octclose.proofs.paths.paths.Given as goal

abbrev pub invariant-loop-k : goal.invariant-loop-k
invariant-loop-k g l = record {
  size : length l.cells ≡ block (l.d / 2);
  first : length l.first ≡ 128;
  second : length l.second ≡ 128;
  through : Through l.d (kept_at l.d l.fn.cells) (kept_at l.d l.cells) (Below (2 * l.k));
}
