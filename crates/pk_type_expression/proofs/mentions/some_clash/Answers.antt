-- What is left decides, and clashes with what the set stands for.
use Rattle.std.proofs.Common.{sym, map}
use Rattle.pk_type_expression.specs.Mentions.{joined, nothing_mentioned}
use Rattle.pk_type_expression.specs.Views.{mentioned_in}
use Rattle.pk_type_expression.proofs.MentionLemmas.{nothing_clashes, nothing_before, next, clashes_now, clashes_later, clashes_never}
use Rattle.pk_type_expression.proofs.mentions.some_clash.Goals as goal

pub returns-then-changes_nothing : goal.returns-then-changes_nothing
returns-then-changes_nothing c = sym (nothing_clashes (map mentioned_in c.args.all.now) (sym c.if-changes_nothing.ensures))

pub loop-mentions-init : goal.loop-mentions-init
loop-mentions-init c = record { so_far = nothing_mentioned; is = c.none-before.ensures; left = nothing_before (map mentioned_in c.args.all.now) }

pub returns-then-clashes : goal.returns-then-clashes
returns-then-clashes c =
    let i = c.loop-mentions.invariant in
    clashes_now i.so_far (mentioned_in c.mentions-item.result) _ _ _
    (next c.args.all.now c.loop-mentions.mentions-index c.mentions-item.result c.loop-mentions-test.true c.mentions-item.is) i.left (c.if-clashes.ensures i.so_far i.is)

pub loop-mentions-preserved : goal.loop-mentions-preserved
loop-mentions-preserved c =
    let i = c.loop-mentions.invariant in
    record {
      so_far = joined i.so_far (mentioned_in c.mentions-item.result);
      is = c.in_ok-add.ensures i.so_far i.is;
      left = clashes_later i.so_far (mentioned_in c.mentions-item.result) _ _ _
          (next c.args.all.now c.loop-mentions.mentions-index c.mentions-item.result c.loop-mentions-test.true c.mentions-item.is) i.left (c.if-clashes.ensures i.so_far i.is);
    }

pub returns : goal.returns
returns c = clashes_never c.args.all.now c.loop-mentions.mentions-index _ _ c.loop-mentions-test.false c.loop-mentions.invariant.left
