use Rattle.std.proofs.Common.{◌+◌, sym, subst, arith, List}
use Rattle.pk_ctypes.specs.declared.types.IntType.{IntType}
use Rattle.pk_octagons.specs.Values.{IsValue}
use Rattle.pk_value.specs.Known.{Known}
use Rattle.pk_cert_states.proofs.Writing.{AreInTo, pushed, pushed_all}
use Rattle.pk_cert_states.proofs.values.any_values.Goals as goal

pub loop-j-preserved : goal.loop-j-preserved
loop-j-preserved c =
    subst (λ (vs : List Known). AreInTo c.args.frame.now vs (c.loop-j.j + 1)) (sym c.in_ok-push.ensures.items)
    (pushed c.args.frame.now c.loop-j.values.items c.loop-j.j c.any_in.result c.loop-j.invariant
    (subst (λ (t : IntType). IsValue t c.any_in.result) c.int_type.ensures c.any_in.ensures))

pub returns : goal.returns
returns c = pushed_all c.args.frame.now c.loop-j.values.items c.loop-j.j c.loop-j.invariant (omega (arith, c.loop-j-test.false, c.loop-j.auto.j-end, c.len-j-end.ensures))
