use Rattle.std.proofs.Common.{ap, ◌∙◌}
use Rattle.pk_graph_step.proofs.StoreLemmas.{copied_next, copied_end}
use Rattle.pk_graph_step.proofs.stores.copies.Goals as goal

pub loop-k-preserved : goal.loop-k-preserved
loop-k-preserved c =
    copied_next c.args.rows.now c.loop-k.copies.items c.push.new.self.items c.loop-k.k c.in_ok-from_slice.field-0 c.index-rows-k.result c.loop-k-test.true c.in_ok-push.ensures.items
    (c.in_ok-from_slice.ensures.items ∙ c.deref.ensures.value ∙ ap (λ (v : _). v.items) c.index-rows-k.is) c.loop-k.invariant

pub returns : goal.returns
returns c = copied_end c.args.rows.now c.loop-k.copies.items c.loop-k.k c.loop-k-test.false c.loop-k.invariant
