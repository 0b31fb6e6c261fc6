use Rattle.std.proofs.Common.{sym, ◌∙◌}
use Rattle.pk_wrong_byte.specs.Pieces.{is_count}
use Rattle.pk_wrong_byte.proofs.PassingLemmas.{stopped, passed}
use Rattle.pk_wrong_byte.proofs.pieces.count_size.Goals as goal

pub returns-then-not-is_count : goal.returns-then-not-is_count
returns-then-not-is_count c =
    stopped is_count c.args.text.now c.loop-k.k _ c.loop-k-test.true (sym c.is_count.ensures ∙ c.if-not-is_count.true) c.loop-k.invariant

pub loop-k-preserved : goal.loop-k-preserved
loop-k-preserved c =
    passed is_count c.args.text.now c.loop-k.k _ c.loop-k-test.true (sym c.is_count.ensures ∙ c.if-not-is_count.false) c.loop-k.invariant
