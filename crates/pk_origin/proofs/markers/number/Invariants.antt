use Rattle.std.proofs.Common.{◌≡◌, ◌<◌, ◌^◌, drop}
use Rattle.pk_origin.specs.Markers.{number_from}
use Rattle.pk_origin.proofs.markers.number.Given as goal

abbrev pub invariant-loop-b : goal.invariant-loop-b
invariant-loop-b l = record {
  small : l.n < 2 ^ 31;
  same_number : number_from l.n (drop l.b-index l.digits) ≡ number_from 0 l.digits;
}
