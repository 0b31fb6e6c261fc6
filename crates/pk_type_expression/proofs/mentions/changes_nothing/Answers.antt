-- One by one.
use Rattle.std.proofs.Common.{refl}
use Rattle.pk_type_expression.specs.Views.{mentioned_in}
use Rattle.pk_type_expression.proofs.MentionLemmas.{next, still_none, one_changed, none_changed}
use Rattle.pk_type_expression.proofs.mentions.changes_nothing.Goals as goal

pub loop-mentions-init : goal.loop-mentions-init
loop-mentions-init c = refl

pub loop-mentions-preserved : goal.loop-mentions-preserved
loop-mentions-preserved c =
    still_none (mentioned_in c.mentions-item.result) _ _ _ _ _
    (next c.args.all.now c.loop-mentions.mentions-index c.mentions-item.result c.loop-mentions-test.true c.mentions-item.is) c.loop-mentions.invariant c.deref.ensures.value c.is_none.ensures c.if-not-is_none.false

pub returns-then-not-is_none : goal.returns-then-not-is_none
returns-then-not-is_none c =
    one_changed (mentioned_in c.mentions-item.result) _ _ _ _ _
    (next c.args.all.now c.loop-mentions.mentions-index c.mentions-item.result c.loop-mentions-test.true c.mentions-item.is) c.loop-mentions.invariant c.deref.ensures.value c.is_none.ensures c.if-not-is_none.true

pub returns : goal.returns
returns c = none_changed c.args.all.now c.loop-mentions.mentions-index _ c.loop-mentions-test.false c.loop-mentions.invariant
