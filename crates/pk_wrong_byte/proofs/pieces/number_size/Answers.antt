use Rattle.std.proofs.Common.{sym, ◌∙◌}
use Rattle.pk_wrong_byte.specs.Pieces.{begins_number}
use Rattle.pk_wrong_byte.proofs.PassingLemmas.{stopped, passed}
use Rattle.pk_wrong_byte.proofs.pieces.number_size.Goals as goal

pub returns-then-not-begins_number : goal.returns-then-not-begins_number
returns-then-not-begins_number c =
    stopped begins_number c.args.text.now c.loop-k.k _ c.loop-k-test.true (sym c.begins_number.ensures ∙ c.if-not-begins_number.true) c.loop-k.invariant

pub loop-k-preserved : goal.loop-k-preserved
loop-k-preserved c =
    passed begins_number c.args.text.now c.loop-k.k _ c.loop-k-test.true (sym c.begins_number.ensures ∙ c.if-not-begins_number.false) c.loop-k.invariant
