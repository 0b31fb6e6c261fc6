use Rattle.std.proofs.Common.{◌≡◌, length}
use Rattle.pk_cert_states.proofs.Ordering.{AreTo}
use Rattle.pk_cert_states.proofs.orders.places_of.Given as goal

abbrev pub invariant-loop : goal.invariant-loop
invariant-loop l = length l.places.items ≡ l.counter

abbrev pub invariant-loop-p : goal.invariant-loop-p
invariant-loop-p l = AreTo l.slots l.places.items l.p
