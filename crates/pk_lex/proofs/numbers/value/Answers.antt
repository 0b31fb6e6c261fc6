use Rattle.std.proofs.Common.{arith}
use Rattle.pk_lex.proofs.DigitLemmas.{too_large}
use Rattle.pk_lex.proofs.numbers.value.Goals as goal

pub returns-then-next : goal.returns-then-next
returns-then-next c =
    too_large c.args.base (omega arith) c.args.digits.now c.loop-b.b-index c.loop-b.value 18446744073709551615 c.loop-b-test.true c.loop-b.invariant
    (omega (arith, c.if-next.true, c.value_of_digit.ensures))
