use Rattle.pk_lex.proofs.CommentLemmas.{first_close, no_close_at_all}
use Rattle.pk_lex.proofs.white.close_count.Goals as goal

pub returns-then-text-i-eq47 : goal.returns-then-text-i-eq47
returns-then-text-i-eq47 c =
    first_close c.args.text.now c.loop-i.i c.loop-i-test.true c.if-text-i-eq42.true c.if-text-i-eq47.true c.loop-i.invariant.none

pub returns : goal.returns
returns c = no_close_at_all c.args.text.now c.loop-i.i c.loop-i-test.false c.loop-i.invariant.none
