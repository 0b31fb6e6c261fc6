use Rattle.std.proofs.Common.{◌≡◌, ℕ, ◌<◌, length, take, slice_index, sum}
use Rattle.pk_layout.specs.Gathered.{times}
use Rattle.pk_layout.proofs.gathering.counted.Given as goal

abbrev pub invariant-loop-u : goal.invariant-loop-u
invariant-loop-u l = record {
  long : length l.counts.items ≡ l.elements;
  each : (v : ℕ) → v < l.elements → slice_index l.counts.items v ≡ times v (take l.u-index l.targets);
  all : sum l.counts.items ≡ l.u-index;
}
