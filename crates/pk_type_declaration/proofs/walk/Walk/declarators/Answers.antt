use Rattle.std.proofs.Common.{◌∙◌, ap, option_map}
use Rattle.pk_typed.specs.Views.{declared_trees}
use Rattle.pk_type_declaration.specs.Parts.{parts_in}
use Rattle.pk_type_declaration.proofs.DeclaratorLemmas.{next, at_end, next_walked, end_walked, next_trees, end_trees, declared_push}
use Rattle.pk_type_declaration.proofs.walk.Walk.declarators.Goals as goal

pub loop-d-preserved : goal.loop-d-preserved
loop-d-preserved c =
    let now = next c.args.list.now c.loop-d.d-index c.d-item.result c.loop-d-test.true c.d-item.is in
    record {
      walked = next_walked c.args.words _ _ _ _ _ _ now c.in_ok-one.ensures.walked c.loop-d.invariant.walked;
      trees = next_trees c.args.words _ _ _ _ _ _ _ _ _ now c.in_ok-one.ensures.walked c.in_ok-one.ensures.tree (ap (option_map declared_trees) c.in_ok-add.ensures ∙ declared_push (parts_in c.loop-d.all) c.in_ok-one.one) c.loop-d.invariant.trees;
    }

pub returns-clause-walked : goal.returns-clause-walked
returns-clause-walked c = end_walked c.args.words _ _ _ (at_end c.args.list.now c.loop-d.d-index c.loop-d-test.false) c.loop-d.invariant.walked

pub returns-clause-trees : goal.returns-clause-trees
returns-clause-trees c = end_trees c.args.words _ _ _ _ (at_end c.args.list.now c.loop-d.d-index c.loop-d-test.false) c.loop-d.invariant.trees
