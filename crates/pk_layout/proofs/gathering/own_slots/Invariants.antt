use Rattle.std.proofs.Common.{◌≡◌, length}
use Rattle.pk_layout.specs.Gathered.{gathered, AreStarts, owned_by}
use Rattle.pk_layout.proofs.gathering.own_slots.Given as goal

abbrev pub invariant-loop-count : goal.invariant-loop-count
invariant-loop-count l = record {
  slots : l.slots ≡ length (gathered (owned_by l.counts) l.count-index);
  first : AreStarts (owned_by l.counts) l.count-index l.first.items;
}
