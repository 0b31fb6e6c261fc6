use Rattle.std.proofs.Common.{ap}
use Rattle.pk_ctypes.specs.declared.types.Op.TheVariants.{Neg, BitNot, Not}
use Rattle.pk_interval.specs.declared.outcome.Outcome.TheVariants.{Within}
use Rattle.pk_interval.proofs.Numbers.{negation_is}
use Rattle.pk_interval.proofs.Wrappable.{can_wrap}
use Rattle.pk_interval.proofs.operators.unary.Goals as goal

pub returns-in-Neg-clause-least : goal.returns-in-Neg-clause-least
returns-in-Neg-clause-least c = rw c.negatives.ensures (can_wrap Neg c.args.t c.args.a.now c.args.a.now c.requires.operand tt)

pub returns-in-BitNot-clause-least : goal.returns-in-BitNot-clause-least
returns-in-BitNot-clause-least c = rw c.complements.ensures (can_wrap BitNot c.args.t c.args.a.now c.args.a.now c.requires.operand tt)

pub returns-in_default-clause-value : goal.returns-in_default-clause-value
returns-in_default-clause-value c =
    let op = negation_is c.args.op c.requires.unary c.in_default.not-Neg c.in_default.not-BitNot in
    rw op (ap Within c.zeros.ensures)

pub returns-in_default-clause-least : goal.returns-in_default-clause-least
returns-in_default-clause-least c = rw c.zeros.ensures (can_wrap Not c.args.t c.args.a.now c.args.a.now c.requires.operand tt)
