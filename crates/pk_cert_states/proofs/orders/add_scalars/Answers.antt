use Rattle.std.proofs.Common.{arith}
use Rattle.pk_cert_states.proofs.Ordering.{scalars_on, scalars_all}
use Rattle.pk_cert_states.proofs.orders.add_scalars.Goals as goal

pub loop-x-preserved : goal.loop-x-preserved
loop-x-preserved c = scalars_on c.args.variables.now c.loop-x.x c.index-variables-x.result c.args.slots.now.items c.loop-x.slots.items c.add_scalar.new.slots.items c.loop-x-test.true c.index-variables-x.is c.loop-x.invariant c.in_ok-add_scalar.ensures

pub returns : goal.returns
returns c = scalars_all c.args.variables.now c.loop-x.x c.args.slots.now.items c.loop-x.slots.items (omega (arith, c.loop-x-test.false, c.loop-x.auto.x-end)) c.loop-x.invariant
