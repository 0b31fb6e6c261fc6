-- Each form by the lemmas on it.
use Rattle.std.proofs.lemmas.Result.{on_ok_weaker}
use Rattle.std.proofs.Common.{◌∙◌, ap, refl, ℕ, length}
use Rattle.pk_ctypes.specs.declared.places.Pos.{Pos}
use Rattle.pk_typed.specs.declared.statements.Statement.{Statement}
use Rattle.pk_typed.specs.declared.statements.ForHead.{ForHead}
use Rattle.pk_typed.specs.Views.{value_tree, effect_tree, for_start_tree, statement_tree, item_trees}
use Rattle.pk_typed.proofs.ViewLemmas.{tree_of_block}
use Rattle.pk_graph.specs.Views.{instr_view}
use Rattle.pk_draft.specs.declared.drafts.Label.{Label}
use Rattle.pk_draft.specs.Drafts.{DraftOf, on}
use Rattle.pk_draft.specs.Shown.{drafted}
use Rattle.pk_lower_row.specs.Contexts.{Context, site}
use Rattle.pk_lower_row.specs.Rows.{Operand, operand}
use Rattle.pk_lower_row.specs.Views.{context_in}
use Rattle.std.specs.Prelude.{option_map}
use Rattle.pk_lower_expression.specs.Expressions.{ways}
use Rattle.pk_lower_statement.specs.declared.statements.Exits.{Exits}
use Rattle.pk_lower_statement.specs.Statements.{in_switch, tested, for_draft, for_start, for_test, performed_if, lowered}
use Rattle.pk_lower_statement.proofs.StepLemmas as step
use Rattle.pk_lower_statement.proofs.statements.+statements.Goals as goal
use Rattle.pk_lower_statement.proofs.statements.+statements.Goals.{lower_items-in-Declared+in_ok-declare-in-Declared, lower_items-in-Statement+in_ok-lower-in-Statement}

pub lower-returns-in_ok-lower_items-in-Block : goal.lower-returns-in_ok-lower_items-in-Block
lower-returns-in_ok-lower_items-in-Block t c =
    step.block_is (context_in c.args.context.now) (statement_tree c.args.statement.now) c.in-Block.field-0 (item_trees c.in-Block.items.items) (item_trees c.as_slice.result.now) c.args.exits c.here-scope.result.scope (drafted c.args.draft.now) (drafted c.lower_items.new.draft) (drafted c.scope.new.self)
    (ap statement_tree c.in-Block.is ∙ tree_of_block c.in-Block.field-0 c.in-Block.items) (ap (λ (l : Label). l.scope) c.here-scope.ensures) (ap item_trees c.as_slice.ensures.value) c.in_ok-lower_items-in-Block.ensures c.scope.ensures

pub lower-returns-in-Empty : goal.lower-returns-in-Empty
unfolding statement_tree
lower-returns-in-Empty t c =
    step.empty_is (context_in c.args.context.now) (statement_tree c.args.statement.now) _ c.args.exits (drafted c.args.draft.now) (ap statement_tree c.in-Empty.is)

pub lower-returns-in-Effect : goal.lower-returns-in-Effect
unfolding statement_tree
lower-returns-in-Effect t c =
    on_ok_weaker c.perform.result (step.effect_is (context_in c.args.context.now) (statement_tree c.args.statement.now) _ _ c.args.exits (drafted c.args.draft.now) _ _ (ap statement_tree c.in-Effect.is) c.on.ensures) c.perform.ensures

pub lower-returns-in_ok-come-in-Label : goal.lower-returns-in_ok-come-in-Label
unfolding statement_tree
lower-returns-in_ok-come-in-Label t c =
    on_ok_weaker c.lower.result (step.label_is (context_in c.args.context.now) (statement_tree c.args.statement.now) c.in-Label.at c.in-Label.number (statement_tree c.in-Label.body.value) (statement_tree c.deref.result.now) c.args.exits c.in_ok-point-in-Label.point (drafted c.args.draft.now) (drafted c.on-in-Label.new.self) (drafted c.come.new.self) (drafted c.lower.new.draft)
    (ap statement_tree c.in-Label.is) c.on-in-Label.ensures c.in_ok-point-in-Label.ensures c.in_ok-come-in-Label.ensures (ap statement_tree c.deref.ensures)) c.lower.ensures

pub lower-returns-in_ok-come-in-Case : goal.lower-returns-in_ok-come-in-Case
unfolding statement_tree
lower-returns-in_ok-come-in-Case t c =
    on_ok_weaker c.lower-in-Case.result (step.case_is (context_in c.args.context.now) (statement_tree c.args.statement.now) c.in-Case.at c.in-Case.number (statement_tree c.in-Case.body.value) (statement_tree c.deref-in-Case.result.now) c.args.exits c.in_ok-point-in-Case.point (drafted c.args.draft.now) (drafted c.on-in-Case.new.self) (drafted c.come-in-Case.new.self) (drafted c.lower-in-Case.new.draft)
    (ap statement_tree c.in-Case.is) c.on-in-Case.ensures c.in_ok-point-in-Case.ensures c.in_ok-come-in-Case.ensures (ap statement_tree c.deref-in-Case.ensures)) c.lower-in-Case.ensures

pub lower-returns-in_ok-come-in-Default : goal.lower-returns-in_ok-come-in-Default
unfolding statement_tree
lower-returns-in_ok-come-in-Default t c =
    on_ok_weaker c.lower-in-Default.result (step.default_is (context_in c.args.context.now) (statement_tree c.args.statement.now) c.in-Default.at (statement_tree c.in-Default.body.value) (statement_tree c.deref-in-Default.result.now) c.args.exits (drafted c.args.draft.now) (drafted c.on-in-Default.new.self) (drafted c.come-in-Default.new.self) (drafted c.lower-in-Default.new.draft)
    (ap statement_tree c.in-Default.is) c.on-in-Default.ensures c.in_ok-come-in-Default.ensures (ap statement_tree c.deref-in-Default.ensures)) c.lower-in-Default.ensures

pub lower-returns-in_ok-lower-in-If : goal.lower-returns-in_ok-lower-in-If
unfolding statement_tree
lower-returns-in_ok-lower-in-If t c =
    on_ok_weaker c.end_if.result (step.if_is (context_in c.args.context.now) (statement_tree c.args.statement.now) c.in-If.at (value_tree c.in-If.condition) (statement_tree c.in-If.body.value) (statement_tree c.deref-in-If.result.now) c.args.exits c.in_ok-first-in-If.first c.point-end.result (drafted c.args.draft.now) (drafted c.begin_if.new.draft) (drafted c.lower-in-If.new.draft) (drafted c.at.new.self) (drafted c.end_if.new.draft)
    (ap statement_tree c.in-If.is) c.in_ok-first-in-If.ensures.draft c.in_ok-first-in-If.ensures.first (ap statement_tree c.deref-in-If.ensures) c.in_ok-lower-in-If.ensures c.point-end.ensures c.at.ensures) c.end_if.ensures

pub lower-returns-in_ok-lower-in-IfElse-2 : goal.lower-returns-in_ok-lower-in-IfElse-2
unfolding statement_tree
lower-returns-in_ok-lower-in-IfElse-2 t c =
    on_ok_weaker c.end_if-in-IfElse.result (step.if_else_is (context_in c.args.context.now) (statement_tree c.args.statement.now) c.in-IfElse.at (value_tree c.in-IfElse.condition) (statement_tree c.in-IfElse.if_true.value) (statement_tree c.in-IfElse.if_false.value) (statement_tree c.deref-in-IfElse.result.now) (statement_tree c.deref-in-IfElse-2.result.now) c.args.exits c.in_ok-first-in-IfElse.first c.point-end-in-IfElse.result (drafted c.args.draft.now) (drafted c.begin_if-in-IfElse.new.draft) (drafted c.lower-in-IfElse.new.draft) (drafted c.at-in-IfElse.new.self) (drafted c.lower-in-IfElse-2.new.draft) (drafted c.end_if-in-IfElse.new.draft)
    (ap statement_tree c.in-IfElse.is) c.in_ok-first-in-IfElse.ensures.draft c.in_ok-first-in-IfElse.ensures.first (ap statement_tree c.deref-in-IfElse.ensures) c.in_ok-lower-in-IfElse.ensures c.point-end-in-IfElse.ensures c.at-in-IfElse.ensures (ap statement_tree c.deref-in-IfElse-2.ensures) c.in_ok-lower-in-IfElse-2.ensures) c.end_if-in-IfElse.ensures

pub lower-returns-in-Switch : goal.lower-returns-in-Switch
unfolding statement_tree
lower-returns-in-Switch t c =
    on_ok_weaker c.lower_switch.result (step.switch_form (context_in c.args.context.now) (statement_tree c.args.statement.now) c.in-Switch.at c.in-Switch.int_type (value_tree c.in-Switch.value) c.in-Switch.cases.items c.as_slice-in-Switch.result.now c.in-Switch.has_default (statement_tree c.in-Switch.body.value) (statement_tree c.deref-in-Switch.result.now) c.args.exits (drafted c.args.draft.now) (drafted c.lower_switch.new.draft)
    (ap statement_tree c.in-Switch.is) c.as_slice-in-Switch.ensures.value (ap statement_tree c.deref-in-Switch.ensures)) c.lower_switch.ensures

pub lower-returns-in-While : goal.lower-returns-in-While
unfolding statement_tree
lower-returns-in-While t c =
    on_ok_weaker c.lower_while.result (step.while_form (context_in c.args.context.now) (statement_tree c.args.statement.now) c.in-While.at (value_tree c.in-While.condition) (statement_tree c.in-While.body.value) (statement_tree c.deref-in-While.result.now) c.args.exits (drafted c.args.draft.now) (drafted c.lower_while.new.draft)
    (ap statement_tree c.in-While.is) (ap statement_tree c.deref-in-While.ensures)) c.lower_while.ensures

pub lower-returns-in-Do : goal.lower-returns-in-Do
unfolding statement_tree
lower-returns-in-Do t c =
    on_ok_weaker c.lower_do.result (step.do_form (context_in c.args.context.now) (statement_tree c.args.statement.now) c.in-Do.at (statement_tree c.in-Do.body.value) (statement_tree c.deref-in-Do.result.now) (value_tree c.in-Do.condition) c.args.exits (drafted c.args.draft.now) (drafted c.lower_do.new.draft)
    (ap statement_tree c.in-Do.is) (ap statement_tree c.deref-in-Do.ensures)) c.lower_do.ensures

abbrev for_at : Context → Exits → DraftOf ℕ → (p : Pos) → ForHead → Statement → DraftOf ℕ
for_at c x d p h s = for_draft p (for_start c (for_start_tree h.start)) (for_test c (option_map value_tree h.test)) (performed_if c (option_map effect_tree h.step)) (lowered c (statement_tree s)) x (on p d)

pub lower-returns-in-For : goal.lower-returns-in-For
unfolding statement_tree
lower-returns-in-For t c =
    let k : Context = context_in c.args.context.now in
    on_ok_weaker c.lower_for.result (λ h. step.for_form k (statement_tree c.args.statement.now) _ _ _ _ _ c.args.exits (drafted c.args.draft.now) _ (ap statement_tree c.in-For.is)
    (h ∙ (ap (λ (z : ForHead). for_at k c.args.exits (drafted c.args.draft.now) c.in-For.at z c.deref-in-For-2.result.now) c.deref-in-For.ensures
    ∙ ap (λ (s : Statement). for_at k c.args.exits (drafted c.args.draft.now) c.in-For.at c.in-For.head.value s) c.deref-in-For-2.ensures))) c.lower_for.ensures

pub lower-returns-in_ok-point-in-Goto : goal.lower-returns-in_ok-point-in-Goto
unfolding statement_tree
lower-returns-in_ok-point-in-Goto t c =
    on_ok_weaker c.away.result (step.goto_is (context_in c.args.context.now) (statement_tree c.args.statement.now) _ _ c.args.exits _ (drafted c.args.draft.now) _ _ (ap statement_tree c.in-Goto.is) c.on-in-Goto.ensures c.in_ok-point-in-Goto.ensures) c.away.ensures

pub lower-returns-in-Continue : goal.lower-returns-in-Continue
unfolding statement_tree
lower-returns-in-Continue t c =
    on_ok_weaker c.away-in-Continue.result (step.continue_is (context_in c.args.context.now) (statement_tree c.args.statement.now) _ c.args.exits (drafted c.args.draft.now) _ _ (ap statement_tree c.in-Continue.is) c.on-in-Continue.ensures) c.away-in-Continue.ensures

pub lower-returns-in-Break : goal.lower-returns-in-Break
unfolding statement_tree
lower-returns-in-Break t c =
    on_ok_weaker c.away-in-Break.result (step.break_is (context_in c.args.context.now) (statement_tree c.args.statement.now) _ c.args.exits (drafted c.args.draft.now) _ _ (ap statement_tree c.in-Break.is) c.on-in-Break.ensures) c.away-in-Break.ensures

pub lower-returns-in-Return : goal.lower-returns-in-Return
unfolding statement_tree
lower-returns-in-Return t c =
    on_ok_weaker c.return_value.result (step.return_is (context_in c.args.context.now) (statement_tree c.args.statement.now) _ _ c.args.exits (drafted c.args.draft.now) _ _ (ap statement_tree c.in-Return.is) c.on-in-Return.ensures) c.return_value.ensures

pub lower_items-loop-item-preserved : goal.lower_items-loop-item-preserved
lower_items-loop-item-preserved t c =
    let k : Context = context_in c.args.context.now in
    elim c.match-item.branch [
      | lower_items-in-Declared+in_ok-declare-in-Declared w ↦ step.next_declared k c.loop-item.item-index c.args.items.now c.item-item.result _ c.args.exits (drafted c.loop-item.draft) (drafted w.declare.new.draft) (drafted c.match-item.draft) c.loop-item-test.true c.item-item.is w.in-Declared.is w.in_ok-declare-in-Declared.ensures (ap drafted w.draft-is)
          ∙ c.loop-item.invariant
      | lower_items-in-Statement+in_ok-lower-in-Statement w ↦ step.next_statement k c.loop-item.item-index c.args.items.now c.item-item.result _ c.args.exits (drafted c.loop-item.draft) (drafted w.lower.new.draft) (drafted c.match-item.draft) c.loop-item-test.true c.item-item.is w.in-Statement.is w.in_ok-lower-in-Statement.ensures (ap drafted w.draft-is)
          ∙ c.loop-item.invariant
    ]

pub lower_items-returns : goal.lower_items-returns
lower_items-returns t c =
    step.items_done (context_in c.args.context.now) c.loop-item.item-index c.args.items.now c.args.exits (drafted c.loop-item.draft) c.loop-item-test.false
    ∙ c.loop-item.invariant

pub lower_switch-returns : goal.lower_switch-returns
lower_switch-returns t c =
    let k : Context = context_in c.args.context.now in
    let v : Operand ℕ = operand (value_tree c.args.value.now) (ways k (value_tree c.args.value.now)) in
    on_ok_weaker c.go.result (step.switch_is k c.args.at (site k c.args.at) c.args.int_type v c.args.cases.now c.args.has_default (statement_tree c.args.body.now) c.args.exits
    (in_switch c.in_ok-end.end (length c.args.cases.now) c.args.exits) c.in_ok-end.end (instr_view c.skip.result) (tested c.args.int_type v (drafted c.on.new.self)) (on c.args.at (drafted c.args.draft.now)) (drafted c.on.new.self) (drafted c.open_switch.new.draft) (drafted c.lower.new.draft) (drafted c.go.new.self)
    refl c.on.ensures refl c.in_ok-end.ensures.end c.in_ok-end.ensures.draft refl c.in_ok-lower.ensures c.skip.ensures) c.go.ensures
