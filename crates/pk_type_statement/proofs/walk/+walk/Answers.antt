use Rattle.std.proofs.Common.{◌∙◌, ap, option_map}
use Rattle.pk_ast.specs.Views.{declaration_tree}
use Rattle.pk_typed.specs.Views.{statement_tree, item_trees}
use Rattle.pk_type_jump.specs.Views.{labels_in}
use Rattle.pk_type_expression.proofs.ResultLemmas.{whatever}
use Rattle.pk_type_declaration.proofs.PartLemmas.{map_twice}
use Rattle.pk_type_statement.specs.Views.{passed_in, items_in}
use Rattle.pk_type_statement.proofs.FormLemmas as form
use Rattle.pk_type_statement.proofs.WalkLemmas.{items_left, left_positive, items_passed, for_left, for_passed, for_typed, switch_passed, switch_typed, declaration_passed, statement_passed, empty_passed, empty_typed, end_passed, declaration_typed, statement_typed, end_typed}
use Rattle.pk_type_jump.proofs.ItemLemmas.{next, at_end}
use Rattle.pk_type_statement.proofs.walk.+walk.Goals as goal
use Rattle.pk_type_statement.proofs.walk.+walk.Goals.{body_items-in-Declaration+in_ok-objects-in-Declaration+in_ok-add_objects-in-Declaration, body_items-in-Statement+in-Some+in_ok-add_empty-in-Some, body_items-in-Statement+in-None+in_ok-one-in-None+in_ok-add_statement-in-None}

pub block_items-leave-requires : goal.block_items-leave-requires
block_items-leave-requires t c =
    left_positive (passed_in c.args.to.now) (passed_in c.body_items.new.to) (items_left c.args.around.now.returns (passed_in c.args.to.now) _ _ _ c.in_ok-enter.ensures c.in_ok-all.ensures.passed)

pub block_items-returns-clause-passed : goal.block_items-returns-clause-passed
block_items-returns-clause-passed t c =
    let l = items_left c.args.around.now.returns (passed_in c.args.to.now) _ (passed_in c.body_items.new.to) _ c.in_ok-enter.ensures c.in_ok-all.ensures.passed in
    items_passed c.args.around.now.returns (passed_in c.args.to.now) _ _ _ _ c.in_ok-enter.ensures c.in_ok-all.ensures.passed (c.leave.ensures (passed_in c.args.to.now).walked l.outer l.text)

pub body_items-loop-item-preserved : goal.body_items-loop-item-preserved
body_items-loop-item-preserved t c =
    let i = c.loop-item.invariant in
    let r = c.args.around.now.returns in
    let labels = labels_in c.args.around.now.labels.now in
    let item = next c.args.list.now c.loop-item.item-index c.item-item.result in
    elim c.match-item.branch [
      | body_items-in-Declaration+in_ok-objects-in-Declaration+in_ok-add_objects-in-Declaration w ↦
          let now = item _ c.loop-item-test.true c.item-item.is w.in-Declaration.is in
          let d = ap declaration_tree w.deref.ensures in
          let e = w.in_ok-objects-in-Declaration.ensures in
          let k = ap passed_in w.to-is ∙ e.passed in
          record {
            passed = declaration_passed r _ _ _ _ _ _ _ _ now d k i.passed;
            trees = declaration_typed r labels _ _ _ _ _ _ _ _ _ _ _ now d k e.trees (ap items_in w.all-is ∙ w.in_ok-add_objects-in-Declaration.ensures) i.trees;
          }
      | body_items-in-Statement+in-Some+in_ok-add_empty-in-Some w ↦
          let now = item _ c.loop-item-test.true c.item-item.is w.in-Statement.is in
          let k = empty_passed r _ _ _ _ w.in-Some.ensures (ap passed_in w.to-is) in
          record {
            passed = statement_passed r _ _ _ _ _ _ now k i.passed;
            trees = statement_typed r labels _ _ _ _ _ _ _ _ _ now k (empty_typed r labels _ _ _ w.in-Some.ensures) (ap items_in w.all-is ∙ w.in_ok-add_empty-in-Some.ensures) i.trees;
          }
      | body_items-in-Statement+in-None+in_ok-one-in-None+in_ok-add_statement-in-None w ↦
          let now = item _ c.loop-item-test.true c.item-item.is w.in-Statement.is in
          let e = w.in_ok-one-in-None.ensures in
          let k = ap passed_in w.to-is ∙ e.passed in
          record {
            passed = statement_passed r _ _ _ _ _ _ now k i.passed;
            trees = statement_typed r labels _ _ _ _ _ _ _ _ _ now k e.tree (ap items_in w.all-is ∙ w.in_ok-add_statement-in-None.ensures) i.trees;
          }
    ]

pub body_items-returns-clause-passed : goal.body_items-returns-clause-passed
body_items-returns-clause-passed t c =
    end_passed c.args.around.now.returns _ _ _ (at_end c.args.list.now c.loop-item.item-index c.loop-item-test.false) c.loop-item.invariant.passed

pub body_items-returns-clause-trees : goal.body_items-returns-clause-trees
body_items-returns-clause-trees t c =
    map_twice (λ v. v.items) item_trees c.whole.result
    ∙ (ap (option_map item_trees) c.whole.ensures
    ∙ end_typed c.args.around.now.returns (labels_in c.args.around.now.labels.now) _ _ _ _ _ _ (at_end c.args.list.now c.loop-item.item-index c.loop-item-test.false) (ap (option_map item_trees) c.new-all.ensures) c.loop-item.invariant.trees)

pub for_statement-leave-requires : goal.for_statement-leave-requires
for_statement-leave-requires t c =
    left_positive (passed_in c.args.to.now) (passed_in c.statement.new.to) (for_left c.args.around.now.returns _ _ _ (passed_in c.args.to.now) _ _ _ _ c.in_ok-enter.ensures c.in_ok-head.ensures.passed c.in_ok-body.ensures.passed)

pub for_statement-returns-clause-passed : goal.for_statement-returns-clause-passed
for_statement-returns-clause-passed t c =
    let l = for_left c.args.around.now.returns _ _ _ (passed_in c.args.to.now) _ _ (passed_in c.statement.new.to) _ c.in_ok-enter.ensures c.in_ok-head.ensures.passed c.in_ok-body.ensures.passed in
    for_passed c.args.around.now.returns c.args.at _ _ _ (passed_in c.args.to.now) _ _ _ _ _ c.in_ok-enter.ensures c.in_ok-head.ensures.passed c.in_ok-body.ensures.passed
    (c.leave.ensures (passed_in c.args.to.now).walked l.outer l.text)

pub for_statement-returns-clause-tree : goal.for_statement-returns-clause-tree
for_statement-returns-clause-tree t c =
    for_typed c.args.around.now.returns (labels_in c.args.around.now.labels.now) c.args.at _ _ _ (passed_in c.args.to.now) _ _ _ _ _ _ c.in_ok-enter.ensures c.in_ok-head.ensures.passed c.in_ok-head.ensures.tree c.in_ok-body.ensures.tree
    (map_twice (λ b. b.value) statement_tree c.in_ok-made.made ∙ (ap (option_map statement_tree) c.in_ok-made.ensures ∙ c.for_loop.ensures))

pub switch_statement-returns-clause-passed : goal.switch_statement-returns-clause-passed
switch_statement-returns-clause-passed t c =
    switch_passed c.args.around.now.returns c.args.at _ (passed_in c.args.to.now) _ _ _ _ _ _ _ _ c.in_ok-typing.ensures.passed c.in_ok-typing.ensures.typing c.enter_switch-outer.ensures.passed
    c.enter_switch-outer.ensures.cases c.enter_switch-outer.ensures.has_default c.in_ok-body.ensures.passed c.in_ok-ended.ensures.passed

pub switch_statement-returns-clause-tree : goal.switch_statement-returns-clause-tree
switch_statement-returns-clause-tree t c =
    switch_typed c.args.around.now.returns (labels_in c.args.around.now.labels.now) c.args.at _ (passed_in c.args.to.now) _ _ _ _ _ _ _ _ _ c.in_ok-typing.ensures.passed c.in_ok-typing.ensures.typing c.enter_switch-outer.ensures.passed
    c.in_ok-body.ensures.passed c.in_ok-typing.ensures.value c.in_ok-ended.ensures.ended c.in_ok-body.ensures.tree
    (map_twice (λ b. b.value) statement_tree c.in_ok-made.made ∙ (ap (option_map statement_tree) c.in_ok-made.ensures ∙ c.switch.ensures))

pub statement-returns-in_ok-body-in-Label-clause-passed : goal.statement-returns-in_ok-body-in-Label-clause-passed
statement-returns-in_ok-body-in-Label-clause-passed t c =
    whatever c.boxed-in-Label.result (form.label_passed c.args.around.now.returns _ _ _ (passed_in c.args.to.now) _ (form.label_tree c.args.s.now _ _ _ c.in-Label.is c.deref-in-Label.ensures) c.in_ok-body-in-Label.ensures.passed)

pub statement-returns-in_ok-body-in-Label-clause-tree : goal.statement-returns-in_ok-body-in-Label-clause-tree
statement-returns-in_ok-body-in-Label-clause-tree t c =
    form.made c.boxed-in-Label.result _ _ c.boxed-in-Label.ensures (form.label_typed c.args.around.now.returns (labels_in c.args.around.now.labels.now) _ _ _ (passed_in c.args.to.now) _ _ _ (form.label_tree c.args.s.now _ _ _ c.in-Label.is c.deref-in-Label.ensures) c.label-number.ensures c.in_ok-body-in-Label.ensures.tree c.label.ensures)

pub statement-returns-in_ok-body-in-Case-clause-passed : goal.statement-returns-in_ok-body-in-Case-clause-passed
statement-returns-in_ok-body-in-Case-clause-passed t c =
    whatever c.boxed-in-Case.result (form.case_passed c.args.around.now.returns _ _ _ _ (passed_in c.args.to.now) _ _ (form.case_tree c.args.s.now _ _ _ _ c.in-Case.is c.deref-in-Case.ensures) c.in_ok-case-in-Case.ensures c.in_ok-body-in-Case.ensures.passed)

pub statement-returns-in_ok-body-in-Case-clause-tree : goal.statement-returns-in_ok-body-in-Case-clause-tree
statement-returns-in_ok-body-in-Case-clause-tree t c =
    form.made c.boxed-in-Case.result _ _ c.boxed-in-Case.ensures (form.case_typed c.args.around.now.returns (labels_in c.args.around.now.labels.now) _ _ _ _ (passed_in c.args.to.now) _ _ _ _ (form.case_tree c.args.s.now _ _ _ _ c.in-Case.is c.deref-in-Case.ensures) c.in_ok-case-in-Case.ensures (form.counted c.args.to.now.cases _ c.len-number.ensures) c.in_ok-body-in-Case.ensures.tree c.case-in-Case.ensures)

pub statement-returns-in_ok-body-in-Default-clause-passed : goal.statement-returns-in_ok-body-in-Default-clause-passed
statement-returns-in_ok-body-in-Default-clause-passed t c =
    whatever c.boxed-in-Default.result (form.default_passed c.args.around.now.returns _ _ _ (passed_in c.args.to.now) _ _ (form.default_tree c.args.s.now _ _ _ c.in-Default.is c.deref-in-Default.ensures) c.default.ensures c.in_ok-body-in-Default.ensures.passed)

pub statement-returns-in_ok-body-in-Default-clause-tree : goal.statement-returns-in_ok-body-in-Default-clause-tree
statement-returns-in_ok-body-in-Default-clause-tree t c =
    form.made c.boxed-in-Default.result _ _ c.boxed-in-Default.ensures (form.default_typed c.args.around.now.returns (labels_in c.args.around.now.labels.now) _ _ _ (passed_in c.args.to.now) _ _ _ (form.default_tree c.args.s.now _ _ _ c.in-Default.is c.deref-in-Default.ensures) c.default.ensures c.in_ok-body-in-Default.ensures.tree c.default-in-Default.ensures)

pub statement-returns-in_ok-body-in-If-clause-passed : goal.statement-returns-in_ok-body-in-If-clause-passed
statement-returns-in_ok-body-in-If-clause-passed t c =
    whatever c.boxed-in-If.result (form.if_passed c.args.around.now.returns _ _ _ _ (passed_in c.args.to.now) _ _ (form.if_tree c.args.s.now _ _ _ _ c.in-If.is c.deref-in-If.ensures) c.in_ok-condition-in-If.ensures.passed c.in_ok-body-in-If.ensures.passed)

pub statement-returns-in_ok-body-in-If-clause-tree : goal.statement-returns-in_ok-body-in-If-clause-tree
statement-returns-in_ok-body-in-If-clause-tree t c =
    form.made c.boxed-in-If.result _ _ c.boxed-in-If.ensures (form.if_typed c.args.around.now.returns (labels_in c.args.around.now.labels.now) _ _ _ _ (passed_in c.args.to.now) _ _ _ _ (form.if_tree c.args.s.now _ _ _ _ c.in-If.is c.deref-in-If.ensures) c.in_ok-condition-in-If.ensures.passed c.in_ok-condition-in-If.ensures.value c.in_ok-body-in-If.ensures.tree c.if_then.ensures)

pub statement-returns-in_ok-if_false-in-IfElse-clause-passed : goal.statement-returns-in_ok-if_false-in-IfElse-clause-passed
statement-returns-in_ok-if_false-in-IfElse-clause-passed t c =
    whatever c.boxed-in-IfElse.result (form.if_else_passed c.args.around.now.returns _ _ _ _ _ (passed_in c.args.to.now) _ _ _ (form.if_else_tree c.args.s.now _ _ _ _ _ _ c.in-IfElse.is c.deref-in-IfElse.ensures c.deref-in-IfElse-2.ensures) c.in_ok-condition-in-IfElse.ensures.passed c.in_ok-if_true-in-IfElse.ensures.passed c.in_ok-if_false-in-IfElse.ensures.passed)

pub statement-returns-in_ok-if_false-in-IfElse-clause-tree : goal.statement-returns-in_ok-if_false-in-IfElse-clause-tree
statement-returns-in_ok-if_false-in-IfElse-clause-tree t c =
    form.made c.boxed-in-IfElse.result _ _ c.boxed-in-IfElse.ensures (form.if_else_typed c.args.around.now.returns (labels_in c.args.around.now.labels.now) _ _ _ _ _ (passed_in c.args.to.now) _ _ _ _ _ _ (form.if_else_tree c.args.s.now _ _ _ _ _ _ c.in-IfElse.is c.deref-in-IfElse.ensures c.deref-in-IfElse-2.ensures) c.in_ok-condition-in-IfElse.ensures.passed c.in_ok-if_true-in-IfElse.ensures.passed c.in_ok-condition-in-IfElse.ensures.value c.in_ok-if_true-in-IfElse.ensures.tree c.in_ok-if_false-in-IfElse.ensures.tree c.if_else.ensures)

pub statement-returns-in_ok-body-in-While-clause-passed : goal.statement-returns-in_ok-body-in-While-clause-passed
statement-returns-in_ok-body-in-While-clause-passed t c =
    whatever c.boxed-in-While.result (form.while_passed c.args.around.now.returns _ _ _ _ (passed_in c.args.to.now) _ _ (form.while_tree c.args.s.now _ _ _ _ c.in-While.is c.deref-in-While.ensures) c.in_ok-condition-in-While.ensures.passed c.in_ok-body-in-While.ensures.passed)

pub statement-returns-in_ok-body-in-While-clause-tree : goal.statement-returns-in_ok-body-in-While-clause-tree
statement-returns-in_ok-body-in-While-clause-tree t c =
    form.made c.boxed-in-While.result _ _ c.boxed-in-While.ensures (form.while_typed c.args.around.now.returns (labels_in c.args.around.now.labels.now) _ _ _ _ (passed_in c.args.to.now) _ _ _ _ (form.while_tree c.args.s.now _ _ _ _ c.in-While.is c.deref-in-While.ensures) c.in_ok-condition-in-While.ensures.passed c.in_ok-condition-in-While.ensures.value c.in_ok-body-in-While.ensures.tree c.while_loop.ensures)

pub statement-returns-in_ok-condition-in-Do-clause-passed : goal.statement-returns-in_ok-condition-in-Do-clause-passed
statement-returns-in_ok-condition-in-Do-clause-passed t c =
    whatever c.boxed-in-Do.result (form.do_passed c.args.around.now.returns _ _ _ _ (passed_in c.args.to.now) _ _ (form.do_tree c.args.s.now _ _ _ _ c.in-Do.is c.deref-in-Do.ensures) c.in_ok-body-in-Do.ensures.passed c.in_ok-condition-in-Do.ensures.passed)

pub statement-returns-in_ok-condition-in-Do-clause-tree : goal.statement-returns-in_ok-condition-in-Do-clause-tree
statement-returns-in_ok-condition-in-Do-clause-tree t c =
    form.made c.boxed-in-Do.result _ _ c.boxed-in-Do.ensures (form.do_typed c.args.around.now.returns (labels_in c.args.around.now.labels.now) _ _ _ _ (passed_in c.args.to.now) _ _ _ _ (form.do_tree c.args.s.now _ _ _ _ c.in-Do.is c.deref-in-Do.ensures) c.in_ok-body-in-Do.ensures.passed c.in_ok-body-in-Do.ensures.tree c.in_ok-condition-in-Do.ensures.value c.do_while.ensures)
