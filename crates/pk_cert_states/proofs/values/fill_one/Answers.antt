use Rattle.std.proofs.Common.{sym, subst}
use Rattle.pk_ctypes.specs.declared.types.IntType.{IntType}
use Rattle.pk_octagons.specs.Values.{IsValue}
use Rattle.pk_cert_states.specs.Parts.{IsFirst}
use Rattle.pk_cert_states.proofs.Fours.{filled_not, filled_on}
use Rattle.pk_cert_states.proofs.values.fill_one.Goals as goal

pub returns-in-None : goal.returns-in-None
returns-in-None c = λ all vs h f.
    filled_not c.args.frame.now c.args.order.now all c.args.symbols.now c.args.values.now.items vs c.args.p c.slot-slot.result c.is_order.ensures c.requires.many h c.requires.place c.slot-slot.ensures.value
    (λ k g. c.in-None.ensures k (subst (λ (t : IntType). IsFirst t c.args.symbols.now k) (sym c.int_type.ensures) g)) f

pub returns-in-Some : goal.returns-in-Some
returns-in-Some c = λ all h.
    let found = c.in-Some.found in
    filled_on c.args.frame.now c.args.order.now all c.args.symbols.now found.1.now c.args.values.now.items c.args.p c.slot-slot.result found.0 c.is_order.ensures c.requires.many h c.requires.place c.slot-slot.ensures.value
    (subst (λ (t : IntType). IsValue t found.0) c.int_type.ensures c.in-Some.ensures.0) c.in-Some.ensures.1
