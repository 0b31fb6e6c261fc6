use Rattle.std.proofs.Common.{arith, length}
use Rattle.pk_cert_states.proofs.Ordering.{arrays_begun, arrays_on, arrays_all, furthers_below}
use Rattle.pk_cert_states.proofs.orders.add_arrays.Goals as goal

pub loop-x-init : goal.loop-x-init
loop-x-init c = arrays_begun c.args.slots.now.items (length c.args.variables.now)

pub add_array-requires : goal.add_array-requires
add_array-requires c = record { room = furthers_below c.args.variables.now c.loop-x.x c.index-variables-x.result c.loop-x.further c.args.total c.loop-x-test.true c.index-variables-x.is c.loop-x.invariant.1 c.requires c.ranges.total.fits }

pub loop-x-preserved : goal.loop-x-preserved
loop-x-preserved c =
    arrays_on c.args.variables.now c.loop-x.x c.index-variables-x.result c.args.slots.now.items c.loop-x.slots.items c.add_array.new.slots.items c.loop-x.further c.in_ok-further.further c.loop-x-test.true c.index-variables-x.is c.loop-x.invariant
    c.in_ok-further.ensures.slots c.in_ok-further.ensures.next

pub returns : goal.returns
returns c = arrays_all c.args.variables.now c.loop-x.x c.args.slots.now.items c.loop-x.slots.items (omega (arith, c.loop-x-test.false, c.loop-x.auto.x-end)) c.loop-x.invariant.0
