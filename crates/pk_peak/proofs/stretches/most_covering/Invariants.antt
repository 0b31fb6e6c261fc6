use Rattle.std.proofs.Common.{◌≡◌, fold, max, map, count_by}
use Rattle.std.specs.List.{range_with_len}
use Rattle.pk_peak.specs.Stretches.{covering}
use Rattle.pk_peak.proofs.Covering.{goes_on}
use Rattle.pk_peak.proofs.stretches.most_covering.Given as goal

abbrev pub invariant-loop-place : goal.invariant-loop-place
invariant-loop-place l = record {
  begun : l.covering ≡ count_by (goes_on l.place) l.stretches;
  most : l.most ≡ fold max 0 (map (covering l.stretches) (range_with_len 0 l.place));
}
