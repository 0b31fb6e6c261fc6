use Rattle.pk_report.proofs.OctagonLemmas.{related_next, related_end, none_small}
use Rattle.pk_report.proofs.octagons.all_related.Goals as goal

pub loop-k-init : goal.loop-k-init
loop-k-init c = (c.new-list.ensures.items, none_small c.new-list.result.items c.new-list.ensures.items)

pub loop-k-preserved : goal.loop-k-preserved
loop-k-preserved c = (
  related_next c.args.state.now.layout c.args.visible.now c.loop-k.k _ c.loop-k.list.items c.push_if.new.list.items c.loop-k-test.true c.in_ok-push_if.ensures.value c.loop-k.invariant.0,
  c.in_ok-push_if.ensures.small c.loop-k.invariant.1,
)

pub returns-clause-value : goal.returns-clause-value
returns-clause-value c = related_end c.args.state.now.layout c.args.visible.now c.loop-k.k c.loop-k.list.items c.loop-k-test.false c.loop-k.invariant.0

pub returns-clause-small : goal.returns-clause-small
returns-clause-small c = c.loop-k.invariant.1
