use Rattle.std.proofs.Common.{◌≡◌}
use Rattle.std.specs.Prelude.{IfSome}
use Rattle.pk_octagons.specs.Values.{type_at, IsValue}
use Rattle.pk_transfer.specs.Transfers.{known_below}
use Rattle.pk_transfer.proofs.transfers.known_below.Given as goal

abbrev pub invariant-loop-i : goal.invariant-loop-i
invariant-loop-i l = record {
  value : l.known ≡ known_below l.state.layout l.state.facts l.x l.k l.i;
  inside : IfSome l.known (IsValue (type_at l.state.layout.types l.x));
}
