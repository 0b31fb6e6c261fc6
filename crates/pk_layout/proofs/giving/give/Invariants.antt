use Rattle.std.proofs.Common.{◌≡◌, ℕ, ◌+◌, ◌<◌, length, take, slice_index}
use Rattle.pk_layout.specs.Gathered.{AreGiven, times}
use Rattle.pk_layout.proofs.giving.give.Given as goal

abbrev pub invariant-loop-u : goal.invariant-loop-u
invariant-loop-u l = record {
  as_many : length l.next.items ≡ length l.first;
  next : (v : ℕ) → v < length l.first → slice_index l.next.items v ≡ slice_index l.first v + times v (take l.u-index l.targets);
  given : AreGiven l.first l.targets l.u-index l.inputs.items;
}
