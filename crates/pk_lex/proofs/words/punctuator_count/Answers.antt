use Rattle.std.proofs.Common.{arith}
use Rattle.std.proofs.lemmas.Bool.{iff_false}
use Rattle.pk_lex.proofs.PunctuatorLemmas.{longest_punctuator, no_three, no_two, no_punctuator}
use Rattle.pk_lex.proofs.words.punctuator_count.Goals as goal

pub returns-then-is_punctuator : goal.returns-then-is_punctuator
returns-then-is_punctuator c = longest_punctuator c.args.text.now 3 (c.is_punctuator.ensures.0 c.if-is_punctuator.true) (λ m lt le i. omega (arith, lt, le))

pub returns-then-is_punctuator-2 : goal.returns-then-is_punctuator-2
returns-then-is_punctuator-2 c =
    longest_punctuator c.args.text.now 2 (c.is_punctuator-else-is_punctuator.ensures.0 c.if-is_punctuator-2.true)
    (no_three c.args.text.now (iff_false c.is_punctuator.ensures c.if-is_punctuator.false))

pub returns-then-is_punctuator-3 : goal.returns-then-is_punctuator-3
returns-then-is_punctuator-3 c =
    longest_punctuator c.args.text.now 1 (c.is_punctuator-else-is_punctuator-2.ensures.0 c.if-is_punctuator-3.true)
    (no_two c.args.text.now (iff_false c.is_punctuator.ensures c.if-is_punctuator.false) (iff_false c.is_punctuator-else-is_punctuator.ensures c.if-is_punctuator-2.false))

pub returns-else-is_punctuator-3 : goal.returns-else-is_punctuator-3
returns-else-is_punctuator-3 c =
    no_punctuator c.args.text.now (iff_false c.is_punctuator.ensures c.if-is_punctuator.false) (iff_false c.is_punctuator-else-is_punctuator.ensures c.if-is_punctuator-2.false)
    (iff_false c.is_punctuator-else-is_punctuator-2.ensures c.if-is_punctuator-3.false)
