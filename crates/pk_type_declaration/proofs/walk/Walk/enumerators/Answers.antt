use Rattle.pk_type_declaration.proofs.EnumerationLemmas.{next, at_end, next_walked, end_walked, next_trees, end_trees}
use Rattle.pk_type_declaration.proofs.walk.Walk.enumerators.Goals as goal

pub loop-x-preserved : goal.loop-x-preserved
loop-x-preserved c =
    let now = next c.args.list.now c.loop-x.x-index c.x-item.result c.loop-x-test.true c.x-item.is in
    record {
      walked = next_walked c.loop-x.next c.in_ok-next.next _ _ _ _ _ _ now c.in_ok-next.ensures.walked c.in_ok-next.ensures.next c.loop-x.invariant.walked;
      trees = next_trees c.loop-x.next c.in_ok-next.next _ _ _ _ _ _ _ _ now c.in_ok-next.ensures.walked c.in_ok-next.ensures.next c.in_ok-next.ensures.trees c.loop-x.invariant.trees;
    }

pub returns-clause-walked : goal.returns-clause-walked
returns-clause-walked c = end_walked c.loop-x.next _ _ _ (at_end c.args.list.now c.loop-x.x-index c.loop-x-test.false) c.loop-x.invariant.walked

pub returns-clause-trees : goal.returns-clause-trees
returns-clause-trees c = end_trees c.loop-x.next _ _ _ _ (at_end c.args.list.now c.loop-x.x-index c.loop-x-test.false) c.loop-x.invariant.trees
