-- Each form by its clause.
use Rattle.std.proofs.Common.{◌≡◌, ◌+◌, ℕ, ap, sym, subst, ◌∙◌, Bool, List, length, drop, take, Vec, Global}
use Rattle.std.specs.Prelude.{Option, if◌then◌else◌}
use Rattle.pk_typed.specs.declared.statements.ForHead.{ForHead}
use Rattle.pk_typed.specs.declared.statements.Item.{Item}
use Rattle.pk_typed.specs.declared.statements.Statement.{Statement}
use Rattle.pk_typed.specs.Trees.{StatementTree}
use Rattle.pk_typed.specs.Views.{for_start_tree, statement_tree, item_trees}
use Rattle.pk_typed.proofs.ViewLemmas.{tree_of_block}
use Rattle.pk_meaning.specs.Objects.{Scope}
use Rattle.pk_meaning.specs.Programs.{Program}
use Rattle.pk_meaning.specs.Work.{Way, Onward, Ahead, Rest, Join, Close, Do}
use Rattle.pk_meaning.specs.Steps as steps
use Rattle.pk_meaning.specs.Steps.{Mark, place}
use Rattle.pk_runner_frame.specs.declared.works.Frame.{Frame}
use Rattle.pk_runner_frame.specs.declared.works.Frame.TheVariants as frames
use Rattle.pk_runner_frame.specs.declared.works.Scope as code_scope
use Rattle.pk_runner_frame.specs.Frames.{held, ahead_at, ahead_in, again_of, loop_of, scope_in}
use Rattle.pk_runner_frame.proofs.FrameLemmas.{if_map, laid_ahead}
use Rattle.pk_runner_state.specs.declared.tables.Table.{Table}
use Rattle.pk_runner_state.specs.Shown.{program_in, Agrees}
use Rattle.pk_runner_jump.specs.declared.jumps.Found.{Found}
use Rattle.pk_runner_jump.specs.declared.jumps.Mark as code_mark
use Rattle.pk_runner_jump.specs.Marks.{mark_in, found_in}
use Rattle.pk_runner_jump.proofs.JumpLemmas.{left_below, rest_of, after_declared, after_statement}
use Rattle.pk_runner_jump.proofs.jumps.+finding.Goals as goal
use Rattle.pk_runner_jump.proofs.jumps.+finding.Goals.{find_in-in-Declared+in_ok-inner-in-Declared, find_in-in-Statement+in_ok-found-in-Statement+in-None}

-- the way to a mark in a statement, as a function of it
abbrev way : Program → ℕ → Mark → Scope → Ahead → Way → Statement → Way
way p k m xs a o t = steps.found p k m xs (statement_tree t) a o

pub find-returns-in-Block-clause-found : goal.find-returns-in-Block-clause-found
unfolding statement_tree
find-returns-in-Block-clause-found t c = λ s a o. if_map c.find_in.result _ _ (λ r e. e
    ∙ (ap (λ (is : List Item). steps.found_in (program_in c.args.program.now) c.args.path (mark_in c.args.mark) (scope_in s c.args.scope) (item_trees is) (ahead_at
    (held s c.args.frames.now.items) c.args.ahead) o) c.as_slice.ensures.value
    ∙ sym (ap (λ (u : StatementTree). steps.found (program_in c.args.program.now) c.args.path (mark_in c.args.mark) (scope_in s c.args.scope) u (ahead_at
    (held s c.args.frames.now.items) c.args.ahead) o) (ap statement_tree c.in-Block.is ∙ tree_of_block c.in-Block.field-0 c.in-Block.items)))) (c.find_in.ensures.found s a o)

pub find-returns-then-is_label-clause-found : goal.find-returns-then-is_label-clause-found
unfolding statement_tree
find-returns-then-is_label-clause-found t c = λ s a o.
    ap (λ (u : Statement). Onward (place c.in-Label.at (scope_in s c.args.scope)) (Do (statement_tree u) (ahead_at (held s c.args.frames.now.items) c.args.ahead))) c.deref.ensures
    ∙ (sym (ap (λ (b : Bool). if b then Onward (place c.in-Label.at (scope_in s c.args.scope)) (Do (statement_tree c.in-Label.inner.value) (ahead_at
    (held s c.args.frames.now.items) c.args.ahead)) else way (program_in c.args.program.now) c.args.path (mark_in c.args.mark) (scope_in s c.args.scope) (ahead_at
    (held s c.args.frames.now.items) c.args.ahead) o c.in-Label.inner.value) (sym c.is_label.ensures ∙ c.if-is_label.true))
    ∙ sym (ap (way (program_in c.args.program.now) c.args.path (mark_in c.args.mark) (scope_in s c.args.scope) (ahead_at (held s c.args.frames.now.items) c.args.ahead) o) c.in-Label.is))

pub find-returns-else-is_label-clause-found : goal.find-returns-else-is_label-clause-found
unfolding statement_tree
find-returns-else-is_label-clause-found t c = λ s a o. if_map c.find.result _ _ (λ r e. e
    ∙ (ap (way (program_in c.args.program.now) c.args.path (mark_in c.args.mark) (scope_in s c.args.scope) (ahead_at
    (held s c.args.frames.now.items) c.args.ahead) o) c.deref-else-is_label.ensures
    ∙ (sym (ap (λ (b : Bool). if b then Onward (place c.in-Label.at (scope_in s c.args.scope)) (Do (statement_tree c.in-Label.inner.value) (ahead_at
    (held s c.args.frames.now.items) c.args.ahead)) else way (program_in c.args.program.now) c.args.path (mark_in c.args.mark) (scope_in s c.args.scope) (ahead_at
    (held s c.args.frames.now.items) c.args.ahead) o c.in-Label.inner.value) (sym c.is_label.ensures ∙ c.if-is_label.false))
    ∙ sym (ap (way (program_in c.args.program.now) c.args.path (mark_in c.args.mark) (scope_in s c.args.scope) (ahead_at (held s c.args.frames.now.items) c.args.ahead) o) c.in-Label.is)))) (c.find.ensures.found s a o)

pub find-returns-then-is_case-clause-found : goal.find-returns-then-is_case-clause-found
unfolding statement_tree
find-returns-then-is_case-clause-found t c = λ s a o.
    ap (λ (u : Statement). Onward (place c.in-Case.at (scope_in s c.args.scope)) (Do (statement_tree u) (ahead_at (held s c.args.frames.now.items) c.args.ahead))) c.deref-then-is_case.ensures
    ∙ (sym (ap (λ (b : Bool). if b then Onward (place c.in-Case.at (scope_in s c.args.scope)) (Do (statement_tree c.in-Case.inner.value) (ahead_at
    (held s c.args.frames.now.items) c.args.ahead)) else way (program_in c.args.program.now) c.args.path (mark_in c.args.mark) (scope_in s c.args.scope) (ahead_at
    (held s c.args.frames.now.items) c.args.ahead) o c.in-Case.inner.value) (sym c.is_case.ensures ∙ c.if-is_case.true))
    ∙ sym (ap (way (program_in c.args.program.now) c.args.path (mark_in c.args.mark) (scope_in s c.args.scope) (ahead_at (held s c.args.frames.now.items) c.args.ahead) o) c.in-Case.is))

pub find-returns-else-is_case-clause-found : goal.find-returns-else-is_case-clause-found
unfolding statement_tree
find-returns-else-is_case-clause-found t c = λ s a o. if_map c.find-else-is_case.result _ _ (λ r e. e
    ∙ (ap (way (program_in c.args.program.now) c.args.path (mark_in c.args.mark) (scope_in s c.args.scope) (ahead_at
    (held s c.args.frames.now.items) c.args.ahead) o) c.deref-else-is_case.ensures
    ∙ (sym (ap (λ (b : Bool). if b then Onward (place c.in-Case.at (scope_in s c.args.scope)) (Do (statement_tree c.in-Case.inner.value) (ahead_at
    (held s c.args.frames.now.items) c.args.ahead)) else way (program_in c.args.program.now) c.args.path (mark_in c.args.mark) (scope_in s c.args.scope) (ahead_at
    (held s c.args.frames.now.items) c.args.ahead) o c.in-Case.inner.value) (sym c.is_case.ensures ∙ c.if-is_case.false))
    ∙ sym (ap (way (program_in c.args.program.now) c.args.path (mark_in c.args.mark) (scope_in s c.args.scope) (ahead_at (held s c.args.frames.now.items) c.args.ahead) o) c.in-Case.is))))
    (c.find-else-is_case.ensures.found s a o)

pub find-returns-then-is_default-clause-found : goal.find-returns-then-is_default-clause-found
unfolding statement_tree
find-returns-then-is_default-clause-found t c = λ s a o.
    ap (λ (u : Statement). Onward (place c.in-Default.at (scope_in s c.args.scope)) (Do (statement_tree u) (ahead_at (held s c.args.frames.now.items) c.args.ahead))) c.deref-then-is_default.ensures
    ∙ (sym (ap (λ (b : Bool). if b then Onward (place c.in-Default.at (scope_in s c.args.scope)) (Do (statement_tree c.in-Default.inner.value) (ahead_at
    (held s c.args.frames.now.items) c.args.ahead)) else way (program_in c.args.program.now) c.args.path (mark_in c.args.mark) (scope_in s c.args.scope) (ahead_at
    (held s c.args.frames.now.items) c.args.ahead) o c.in-Default.inner.value) (sym c.is_default.ensures ∙ c.if-is_default.true))
    ∙ sym (ap (way (program_in c.args.program.now) c.args.path (mark_in c.args.mark) (scope_in s c.args.scope) (ahead_at (held s c.args.frames.now.items) c.args.ahead) o) c.in-Default.is))

pub find-returns-else-is_default-clause-found : goal.find-returns-else-is_default-clause-found
unfolding statement_tree
find-returns-else-is_default-clause-found t c = λ s a o. if_map c.find-else-is_default.result _ _ (λ r e. e
    ∙ (ap (way (program_in c.args.program.now) c.args.path (mark_in c.args.mark) (scope_in s c.args.scope) (ahead_at
    (held s c.args.frames.now.items) c.args.ahead) o) c.deref-else-is_default.ensures
    ∙ (sym (ap (λ (b : Bool). if b then Onward (place c.in-Default.at (scope_in s c.args.scope)) (Do (statement_tree c.in-Default.inner.value) (ahead_at
    (held s c.args.frames.now.items) c.args.ahead)) else way (program_in c.args.program.now) c.args.path (mark_in c.args.mark) (scope_in s c.args.scope) (ahead_at
    (held s c.args.frames.now.items) c.args.ahead) o c.in-Default.inner.value) (sym c.is_default.ensures ∙ c.if-is_default.false))
    ∙ sym (ap (way (program_in c.args.program.now) c.args.path (mark_in c.args.mark) (scope_in s c.args.scope) (ahead_at
    (held s c.args.frames.now.items) c.args.ahead) o) c.in-Default.is)))) (c.find-else-is_default.ensures.found s a o)

pub find-returns-in-If-clause-found : goal.find-returns-in-If-clause-found
unfolding statement_tree ahead_in
find-returns-in-If-clause-found t c = λ s a o. if_map c.find_behind.result _ _ (λ r e. e ∙ (ap (way (program_in c.args.program.now) c.args.path (mark_in c.args.mark)
    (scope_in s c.args.scope) (Join (place c.in-If.at (scope_in s c.args.scope)) (ahead_at (held s c.args.frames.now.items) c.args.ahead)) o) c.deref-in-If.ensures
    ∙ sym (ap (way (program_in c.args.program.now) c.args.path (mark_in c.args.mark) (scope_in s c.args.scope) (ahead_at (held s c.args.frames.now.items) c.args.ahead) o) c.in-If.is)))
    (c.find_behind.ensures.found s a o)

pub find-returns-in-Some-clause-found : goal.find-returns-in-Some-clause-found
unfolding statement_tree ahead_in
find-returns-in-Some-clause-found t c = λ s a o.
    sym (ap (λ (f : Option Found). found_in s (held s c.find_behind-in-IfElse.new.frames.items) f (way (program_in c.args.program.now) c.args.path (mark_in c.args.mark)
    (scope_in s c.args.scope) (Join (place c.in-IfElse.at (scope_in s c.args.scope)) (ahead_at
    (held s c.args.frames.now.items) c.args.ahead)) o c.in-IfElse.if_false.value)) c.in-Some.is)
    ∙ (c.in_ok-found-in-IfElse.ensures.found s a (way (program_in c.args.program.now) c.args.path (mark_in c.args.mark) (scope_in s c.args.scope) (Join (place c.in-IfElse.at
    (scope_in s c.args.scope)) (ahead_at (held s c.args.frames.now.items) c.args.ahead)) o c.in-IfElse.if_false.value)
    ∙ (ap (way (program_in c.args.program.now) c.args.path (mark_in c.args.mark) (scope_in s c.args.scope) (Join (place c.in-IfElse.at (scope_in s c.args.scope)) (ahead_at
    (held s c.args.frames.now.items) c.args.ahead)) (way (program_in c.args.program.now) c.args.path (mark_in c.args.mark) (scope_in s c.args.scope) (Join (place c.in-IfElse.at
    (scope_in s c.args.scope)) (ahead_at (held s c.args.frames.now.items) c.args.ahead)) o c.in-IfElse.if_false.value)) c.deref-in-IfElse.ensures
    ∙ sym (ap (way (program_in c.args.program.now) c.args.path (mark_in c.args.mark) (scope_in s c.args.scope) (ahead_at
    (held s c.args.frames.now.items) c.args.ahead) o) c.in-IfElse.is)))

pub find-returns-in-None-clause-found : goal.find-returns-in-None-clause-found
unfolding statement_tree ahead_in
find-returns-in-None-clause-found t c = λ s a o.
    let first : way (program_in c.args.program.now) c.args.path (mark_in c.args.mark) (scope_in s c.args.scope) (Join (place c.in-IfElse.at (scope_in s c.args.scope)) (ahead_at
    (held s c.args.frames.now.items) c.args.ahead)) o c.in-IfElse.if_false.value ≡ way (program_in c.args.program.now) c.args.path (mark_in c.args.mark) (scope_in s c.args.scope) (Join
    (place c.in-IfElse.at (scope_in s c.args.scope)) (ahead_at (held s c.args.frames.now.items) c.args.ahead)) (way (program_in c.args.program.now) c.args.path (mark_in c.args.mark)
    (scope_in s c.args.scope) (Join (place c.in-IfElse.at (scope_in s c.args.scope)) (ahead_at
    (held s c.args.frames.now.items) c.args.ahead)) o c.in-IfElse.if_false.value) c.deref-in-IfElse.result.now =
    sym (ap (λ (f : Option Found). found_in s (held s c.find_behind-in-IfElse.new.frames.items) f (way (program_in c.args.program.now) c.args.path (mark_in c.args.mark)
    (scope_in s c.args.scope) (Join (place c.in-IfElse.at (scope_in s c.args.scope)) (ahead_at
    (held s c.args.frames.now.items) c.args.ahead)) o c.in-IfElse.if_false.value)) c.in-None.is)
    ∙ c.in_ok-found-in-IfElse.ensures.found s (c.find_behind-in-None.ensures.before s a) (way (program_in c.args.program.now) c.args.path (mark_in c.args.mark) (scope_in s c.args.scope)
    (Join (place c.in-IfElse.at (scope_in s c.args.scope)) (ahead_at (held s c.args.frames.now.items) c.args.ahead)) o c.in-IfElse.if_false.value) in
    if_map c.find_behind-in-None.result _ _ (λ r e. e
    ∙ (ap (way (program_in c.args.program.now) c.args.path (mark_in c.args.mark) (scope_in s c.args.scope) (Join (place c.in-IfElse.at (scope_in s c.args.scope)) (ahead_at
    (held s c.find_behind-in-IfElse.new.frames.items) c.args.ahead)) o) c.deref-in-None.ensures
    ∙ (ap (λ (fs : List Frame). way (program_in c.args.program.now) c.args.path (mark_in c.args.mark) (scope_in s c.args.scope) (Join (place c.in-IfElse.at (scope_in s c.args.scope))
    (ahead_at (held s fs) c.args.ahead)) o c.in-IfElse.if_false.value) (c.in_ok-found-in-IfElse.ensures.kept c.in-None.is)
    ∙ (first ∙ (ap (way (program_in c.args.program.now) c.args.path (mark_in c.args.mark) (scope_in s c.args.scope) (Join (place c.in-IfElse.at (scope_in s c.args.scope)) (ahead_at
    (held s c.args.frames.now.items) c.args.ahead)) (way (program_in c.args.program.now) c.args.path (mark_in c.args.mark) (scope_in s c.args.scope) (Join (place c.in-IfElse.at
    (scope_in s c.args.scope)) (ahead_at (held s c.args.frames.now.items) c.args.ahead)) o c.in-IfElse.if_false.value)) c.deref-in-IfElse.ensures
    ∙ sym (ap (way (program_in c.args.program.now) c.args.path (mark_in c.args.mark) (scope_in s c.args.scope) (ahead_at
    (held s c.args.frames.now.items) c.args.ahead) o) c.in-IfElse.is)))))) (c.find_behind-in-None.ensures.found s a o)

pub find-returns-in-Label-mark-clause-found : goal.find-returns-in-Label-mark-clause-found
unfolding statement_tree ahead_in
find-returns-in-Label-mark-clause-found t c = λ s a o. if_map c.find_behind-in-Label-mark.result _ _ (λ r e. e
    ∙ (ap (way (program_in c.args.program.now) c.args.path (mark_in c.args.mark) (scope_in s c.args.scope) (Close (place c.in-Switch.at (scope_in s c.args.scope)) (ahead_at
    (held s c.args.frames.now.items) c.args.ahead)) o) c.deref-in-Label-mark.ensures
    ∙ (sym (ap (λ (n : code_mark.Mark). steps.past_switch (mark_in n) (way (program_in c.args.program.now) c.args.path (mark_in c.args.mark) (scope_in s c.args.scope) (Close
    (place c.in-Switch.at (scope_in s c.args.scope)) (ahead_at (held s c.args.frames.now.items) c.args.ahead)) o c.in-Switch.body.value) o) c.in-Label-mark.is)
    ∙ sym (ap (way (program_in c.args.program.now) c.args.path (mark_in c.args.mark) (scope_in s c.args.scope) (ahead_at
    (held s c.args.frames.now.items) c.args.ahead) o) c.in-Switch.is)))) (c.find_behind-in-Label-mark.ensures.found s a o)

pub find-returns-in-Case-mark-clause-found : goal.find-returns-in-Case-mark-clause-found
unfolding statement_tree ahead_in
find-returns-in-Case-mark-clause-found t c = λ s a o. sym (ap (λ (n : code_mark.Mark). steps.past_switch (mark_in n) (way (program_in c.args.program.now) c.args.path (mark_in c.args.mark)
    (scope_in s c.args.scope) (Close (place c.in-Switch.at (scope_in s c.args.scope)) (ahead_at
    (held s c.args.frames.now.items) c.args.ahead)) o c.in-Switch.body.value) o) c.in-Case-mark.is)
    ∙ sym (ap (way (program_in c.args.program.now) c.args.path (mark_in c.args.mark) (scope_in s c.args.scope) (ahead_at (held s c.args.frames.now.items) c.args.ahead) o) c.in-Switch.is)

pub find-returns-in-Default-mark-clause-found : goal.find-returns-in-Default-mark-clause-found
unfolding statement_tree ahead_in
find-returns-in-Default-mark-clause-found t c = λ s a o. sym (ap (λ (n : code_mark.Mark). steps.past_switch (mark_in n) (way (program_in c.args.program.now) c.args.path
    (mark_in c.args.mark) (scope_in s c.args.scope) (Close (place c.in-Switch.at (scope_in s c.args.scope)) (ahead_at
    (held s c.args.frames.now.items) c.args.ahead)) o c.in-Switch.body.value) o) c.in-Default-mark.is)
    ∙ sym (ap (way (program_in c.args.program.now) c.args.path (mark_in c.args.mark) (scope_in s c.args.scope) (ahead_at (held s c.args.frames.now.items) c.args.ahead) o) c.in-Switch.is)

pub find-returns-in-While-clause-found : goal.find-returns-in-While-clause-found
unfolding statement_tree ahead_in loop_of
find-returns-in-While-clause-found t c = λ s a o. if_map c.find_behind-in-While.result _ _ (λ r e. e
    ∙ (ap (way (program_in c.args.program.now) c.args.path (mark_in c.args.mark) (scope_in s c.args.scope) (again_of (loop_of (statement_tree c.args.statement.now)) (place c.in-While.at
    (scope_in s c.args.scope)) (place c.in-While.at (scope_in s c.args.scope)) (ahead_at (held s c.args.frames.now.items) c.args.ahead)) o) c.deref-in-While.ensures
    ∙ (ap (λ (u : Statement). way (program_in c.args.program.now) c.args.path (mark_in c.args.mark) (scope_in s c.args.scope) (again_of (loop_of (statement_tree u)) (place c.in-While.at
    (scope_in s c.args.scope)) (place c.in-While.at (scope_in s c.args.scope)) (ahead_at (held s c.args.frames.now.items) c.args.ahead)) o c.in-While.body.value) c.in-While.is
    ∙ sym (ap (way (program_in c.args.program.now) c.args.path (mark_in c.args.mark) (scope_in s c.args.scope) (ahead_at
    (held s c.args.frames.now.items) c.args.ahead) o) c.in-While.is)))) (c.find_behind-in-While.ensures.found s a o)

pub find-returns-in-Do-clause-found : goal.find-returns-in-Do-clause-found
unfolding statement_tree ahead_in loop_of
find-returns-in-Do-clause-found t c = λ s a o. if_map c.find_behind-in-Do.result _ _ (λ r e. e
    ∙ (ap (way (program_in c.args.program.now) c.args.path (mark_in c.args.mark) (scope_in s c.args.scope) (again_of (loop_of (statement_tree c.args.statement.now)) (place c.in-Do.at
    (scope_in s c.args.scope)) (place c.in-Do.at (scope_in s c.args.scope)) (ahead_at (held s c.args.frames.now.items) c.args.ahead)) o) c.deref-in-Do.ensures
    ∙ (ap (λ (u : Statement). way (program_in c.args.program.now) c.args.path (mark_in c.args.mark) (scope_in s c.args.scope) (again_of (loop_of (statement_tree u)) (place c.in-Do.at
    (scope_in s c.args.scope)) (place c.in-Do.at (scope_in s c.args.scope)) (ahead_at (held s c.args.frames.now.items) c.args.ahead)) o c.in-Do.body.value) c.in-Do.is
    ∙ sym (ap (way (program_in c.args.program.now) c.args.path (mark_in c.args.mark) (scope_in s c.args.scope) (ahead_at (held s c.args.frames.now.items) c.args.ahead) o) c.in-Do.is))))
    (c.find_behind-in-Do.ensures.found s a o)

pub find-returns-in_ok-inner-in-For-clause-found : goal.find-returns-in_ok-inner-in-For-clause-found
unfolding statement_tree ahead_in loop_of for_start_tree
find-returns-in_ok-inner-in-For-clause-found t c = λ s a o.
    let names : scope_in s c.in_ok-inner-in-For.inner ≡ steps.for_scope (program_in c.args.program.now) c.args.path (for_start_tree c.in-For.head.value.start) (scope_in s c.args.scope) =
    c.in_ok-inner-in-For.ensures.scope s (c.find_behind-in-For.ensures.before s a)
    ∙ ap (λ (h : ForHead). steps.for_scope (program_in c.args.program.now) c.args.path (for_start_tree h.start) (scope_in s c.args.scope)) c.deref-in-For.ensures in
    if_map c.find_behind-in-For.result _ _ (λ r e. e ∙ (ap (way (program_in c.args.program.now) c.args.path (mark_in c.args.mark) (scope_in s c.in_ok-inner-in-For.inner) (again_of (loop_of
    (statement_tree c.args.statement.now)) (place c.in-For.at (scope_in s c.in_ok-inner-in-For.inner)) (place c.in-For.at (scope_in s c.args.scope)) (ahead_at
    (held s c.args.frames.now.items) c.args.ahead)) o) c.deref-in-For-2.ensures
    ∙ (ap (λ (ys : Scope). way (program_in c.args.program.now) c.args.path (mark_in c.args.mark) ys (again_of (loop_of (statement_tree c.args.statement.now)) (place c.in-For.at ys)
    (place c.in-For.at (scope_in s c.args.scope)) (ahead_at (held s c.args.frames.now.items) c.args.ahead)) o c.in-For.body.value) names
    ∙ (ap (λ (u : Statement). way (program_in c.args.program.now) c.args.path (mark_in c.args.mark) (steps.for_scope (program_in c.args.program.now) c.args.path
    (for_start_tree c.in-For.head.value.start) (scope_in s c.args.scope)) (again_of (loop_of (statement_tree u)) (place c.in-For.at (steps.for_scope
    (program_in c.args.program.now) c.args.path (for_start_tree c.in-For.head.value.start) (scope_in s c.args.scope))) (place c.in-For.at (scope_in s c.args.scope)) (ahead_at
    (held s c.args.frames.now.items) c.args.ahead)) o c.in-For.body.value) c.in-For.is
    ∙ sym (ap (way (program_in c.args.program.now) c.args.path (mark_in c.args.mark) (scope_in s c.args.scope) (ahead_at
    (held s c.args.frames.now.items) c.args.ahead) o) c.in-For.is))))) (c.find_behind-in-For.ensures.found s a o)

pub find-returns-in-Empty-clause-found : goal.find-returns-in-Empty-clause-found
unfolding statement_tree
find-returns-in-Empty-clause-found t c = λ s a o. sym (ap (way (program_in c.args.program.now) c.args.path (mark_in c.args.mark) (scope_in s c.args.scope) (ahead_at
    (held s c.args.frames.now.items) c.args.ahead) o) c.in-Empty.is)

pub find-returns-in-Effect-clause-found : goal.find-returns-in-Effect-clause-found
unfolding statement_tree
find-returns-in-Effect-clause-found t c = λ s a o. sym (ap (way (program_in c.args.program.now) c.args.path (mark_in c.args.mark) (scope_in s c.args.scope) (ahead_at
    (held s c.args.frames.now.items) c.args.ahead) o) c.in-Effect.is)

pub find-returns-in-Goto-clause-found : goal.find-returns-in-Goto-clause-found
unfolding statement_tree
find-returns-in-Goto-clause-found t c = λ s a o. sym (ap (way (program_in c.args.program.now) c.args.path (mark_in c.args.mark) (scope_in s c.args.scope) (ahead_at
    (held s c.args.frames.now.items) c.args.ahead) o) c.in-Goto.is)

pub find-returns-in-Continue-clause-found : goal.find-returns-in-Continue-clause-found
unfolding statement_tree
find-returns-in-Continue-clause-found t c = λ s a o. sym (ap (way (program_in c.args.program.now) c.args.path (mark_in c.args.mark) (scope_in s c.args.scope) (ahead_at
    (held s c.args.frames.now.items) c.args.ahead) o) c.in-Continue.is)

pub find-returns-in-Break-clause-found : goal.find-returns-in-Break-clause-found
unfolding statement_tree
find-returns-in-Break-clause-found t c = λ s a o. sym (ap (way (program_in c.args.program.now) c.args.path (mark_in c.args.mark) (scope_in s c.args.scope) (ahead_at
    (held s c.args.frames.now.items) c.args.ahead) o) c.in-Break.is)

pub find-returns-in-Return-clause-found : goal.find-returns-in-Return-clause-found
unfolding statement_tree
find-returns-in-Return-clause-found t c = λ s a o. sym (ap (way (program_in c.args.program.now) c.args.path (mark_in c.args.mark) (scope_in s c.args.scope) (ahead_at
    (held s c.args.frames.now.items) c.args.ahead) o) c.in-Return.is)

pub find_behind-returns-in-Some-clause-found : goal.find_behind-returns-in-Some-clause-found
find_behind-returns-in-Some-clause-found t c = λ s a o.
    let seat : ahead_at (held s c.lay.new.frames.items) c.in_ok-number.number ≡ ahead_in s (held s c.args.frames.now.items) c.args.ahead =
    laid_ahead s c.args.frames.now.items c.lay.new.frames.items c.args.ahead c.in_ok-number.number c.in_ok-number.ensures.frames c.in_ok-number.ensures.number in
    sym (ap (λ (f : Option Found). found_in s (held s c.find.new.frames.items) f o) c.in-Some.is)
    ∙ (c.in_ok-found.ensures.found s a o ∙ ap (λ (x : Ahead). steps.found (program_in c.args.program.now) c.args.path (mark_in c.args.mark) (scope_in s c.args.scope) (statement_tree c.args.statement.now) x o) seat)

pub find_behind-returns-in-None-clause-found : goal.find_behind-returns-in-None-clause-found
find_behind-returns-in-None-clause-found t c = λ s a o.
    let seat : ahead_at (held s c.lay.new.frames.items) c.in_ok-number.number ≡ ahead_in s (held s c.args.frames.now.items) c.args.ahead =
    laid_ahead s c.args.frames.now.items c.lay.new.frames.items c.args.ahead c.in_ok-number.number c.in_ok-number.ensures.frames c.in_ok-number.ensures.number in
    sym (ap (λ (f : Option Found). found_in s (held s c.find.new.frames.items) f o) c.in-None.is)
    ∙ (c.in_ok-found.ensures.found s a o ∙ ap (λ (x : Ahead). steps.found (program_in c.args.program.now) c.args.path (mark_in c.args.mark) (scope_in s c.args.scope) (statement_tree c.args.statement.now) x o) seat)

pub find_behind-returns-in-None-clause-kept : goal.find_behind-returns-in-None-clause-kept
find_behind-returns-in-None-clause-kept t c = λ e.
    c.truncate.ensures.items
    ∙ (ap (λ (n : ℕ). take n c.find.new.frames.items) (c.len-count.ensures ∙ c.args.frames.now.ok.0)
    ∙ (ap (take (length c.args.frames.now.items)) (c.in_ok-found.ensures.kept c.in-None.is)
    ∙ left_below c.args.frames.now.items c.lay.new.frames.items (frames.Ahead c.args.ahead) c.in_ok-number.ensures.frames))

pub find_in-returns-in_err-inner-in-Declared-clause-before : goal.find_in-returns-in_err-inner-in-Declared-clause-before
find_in-returns-in_err-inner-in-Declared-clause-before t c = λ s a. c.loop-number.invariant.before s (c.with_declared.ensures.before s a)

pub find_in-returns-in-Some-clause-found : goal.find_in-returns-in-Some-clause-found
unfolding ahead_in
find_in-returns-in-Some-clause-found t c = λ s b o.
    after_statement (program_in c.args.program.now) c.args.path (mark_in c.args.mark)
    (scope_in s c.loop-number.inner) c.args.items.now c.loop-number.number c.index-items-number.result c.in-Statement.statement (ahead_at
    (held s c.args.frames.now.items) c.args.ahead) o (steps.found_in (program_in c.args.program.now) c.args.path (mark_in c.args.mark) (scope_in s c.args.scope)
    (item_trees c.args.items.now) (ahead_at (held s c.args.frames.now.items) c.args.ahead) o) _ c.loop-number-test.true c.index-items-number.is c.in-Statement.is
    (sym (ap (λ (f : Option Found). found_in s (held s c.find_behind.new.frames.items) f (steps.found_in (program_in c.args.program.now) c.args.path (mark_in c.args.mark)
    (scope_in s c.loop-number.inner) (item_trees (drop (c.loop-number.number + 1) c.args.items.now)) (ahead_at (held s c.args.frames.now.items) c.args.ahead) o)) c.in-Some.is)
    ∙ (c.in_ok-found-in-Statement.ensures.found s b (steps.found_in (program_in c.args.program.now) c.args.path (mark_in c.args.mark) (scope_in s c.loop-number.inner) (item_trees (drop
    (c.loop-number.number + 1) c.args.items.now)) (ahead_at (held s c.args.frames.now.items) c.args.ahead) o)
    ∙ (ap (λ (is : List Item). steps.found (program_in c.args.program.now) c.args.path (mark_in c.args.mark) (scope_in s c.loop-number.inner) (statement_tree c.in-Statement.statement) (Rest
    (scope_in s c.loop-number.inner) (item_trees is) (ahead_at (held s c.loop-number.frames.items) c.args.ahead)) (steps.found_in (program_in c.args.program.now) c.args.path
    (mark_in c.args.mark) (scope_in s c.loop-number.inner) (item_trees (drop (c.loop-number.number + 1) c.args.items.now)) (ahead_at (held s c.args.frames.now.items) c.args.ahead) o))
    (rest_of c.args.items.now (c.loop-number.number + 1))
    ∙ ap (λ (fs : List Frame). steps.found (program_in c.args.program.now) c.args.path (mark_in c.args.mark) (scope_in s c.loop-number.inner) (statement_tree c.in-Statement.statement) (Rest
    (scope_in s c.loop-number.inner) (item_trees (drop (c.loop-number.number + 1) c.args.items.now)) (ahead_at (held s fs) c.args.ahead)) (steps.found_in
    (program_in c.args.program.now) c.args.path (mark_in c.args.mark) (scope_in s c.loop-number.inner) (item_trees (drop (c.loop-number.number + 1) c.args.items.now)) (ahead_at
    (held s c.args.frames.now.items) c.args.ahead) o)) c.loop-number.invariant.kept)))
    (c.loop-number.invariant.left s (c.find_behind.ensures.before s b) o)

pub find_in-loop-number-preserved : goal.find_in-loop-number-preserved
unfolding ahead_in
find_in-loop-number-preserved t c =
    elim c.match-items-number.branch [
      | find_in-in-Declared+in_ok-inner-in-Declared w ↦ record {
        left = λ s a o.
            let b : Agrees s w.with_declared.new.table.rows.items = subst (λ (x : Table). Agrees s x.rows.items) w.table-is a in
            after_declared (program_in c.args.program.now) c.args.path (mark_in c.args.mark) (scope_in s c.loop-number.inner)
            (scope_in s c.match-items-number.inner) c.args.items.now c.loop-number.number c.index-items-number.result w.in-Declared.declared (ahead_at
            (held s c.args.frames.now.items) c.args.ahead) o (steps.found_in (program_in c.args.program.now) c.args.path (mark_in c.args.mark) (scope_in s c.args.scope)
            (item_trees c.args.items.now) (ahead_at (held s c.args.frames.now.items) c.args.ahead) o) c.loop-number-test.true c.index-items-number.is w.in-Declared.is
            (ap (scope_in s) w.inner-is ∙ w.in_ok-inner-in-Declared.ensures.scope s b) (c.loop-number.invariant.left s (w.with_declared.ensures.before s b) o);
        before = λ s a. c.loop-number.invariant.before s (w.with_declared.ensures.before s (subst (λ (x : Table). Agrees s x.rows.items) w.table-is a));
        kept = ap (λ (v : Vec Frame Global). v.items) w.frames-is ∙ c.loop-number.invariant.kept;
      }
      | find_in-in-Statement+in_ok-found-in-Statement+in-None w ↦ record {
        left = λ s a o.
            let b : Agrees s w.find_behind.new.table.rows.items = subst (λ (x : Table). Agrees s x.rows.items) w.table-is a in
            ap (λ (x : code_scope.Scope). steps.found_in (program_in c.args.program.now) c.args.path (mark_in c.args.mark) (scope_in s x) (item_trees (drop
            (c.loop-number.number + 1) c.args.items.now)) (ahead_at (held s c.args.frames.now.items) c.args.ahead) o) w.inner-is
            ∙ after_statement (program_in c.args.program.now) c.args.path (mark_in c.args.mark)
            (scope_in s c.loop-number.inner) c.args.items.now c.loop-number.number c.index-items-number.result w.in-Statement.statement (ahead_at
            (held s c.args.frames.now.items) c.args.ahead) o (steps.found_in (program_in c.args.program.now) c.args.path (mark_in c.args.mark) (scope_in s c.args.scope)
            (item_trees c.args.items.now) (ahead_at (held s c.args.frames.now.items) c.args.ahead) o) (steps.found_in (program_in c.args.program.now) c.args.path (mark_in c.args.mark)
            (scope_in s c.loop-number.inner) (item_trees (drop (c.loop-number.number + 1) c.args.items.now)) (ahead_at
            (held s c.args.frames.now.items) c.args.ahead) o) c.loop-number-test.true c.index-items-number.is w.in-Statement.is
            (sym (ap (λ (f : Option Found). found_in s (held s w.find_behind.new.frames.items) f (steps.found_in (program_in c.args.program.now) c.args.path (mark_in c.args.mark)
            (scope_in s c.loop-number.inner) (item_trees (drop (c.loop-number.number + 1) c.args.items.now)) (ahead_at (held s c.args.frames.now.items) c.args.ahead) o)) w.in-None.is)
            ∙ (w.in_ok-found-in-Statement.ensures.found s b (steps.found_in (program_in c.args.program.now) c.args.path (mark_in c.args.mark) (scope_in s c.loop-number.inner) (item_trees
            (drop (c.loop-number.number + 1) c.args.items.now)) (ahead_at (held s c.args.frames.now.items) c.args.ahead) o)
            ∙ (ap (λ (is : List Item). steps.found (program_in c.args.program.now) c.args.path (mark_in c.args.mark) (scope_in s c.loop-number.inner)
            (statement_tree w.in-Statement.statement) (Rest (scope_in s c.loop-number.inner) (item_trees is) (ahead_at (held s c.loop-number.frames.items) c.args.ahead)) (steps.found_in
            (program_in c.args.program.now) c.args.path (mark_in c.args.mark) (scope_in s c.loop-number.inner) (item_trees (drop (c.loop-number.number + 1) c.args.items.now)) (ahead_at
            (held s c.args.frames.now.items) c.args.ahead) o)) (rest_of c.args.items.now (c.loop-number.number + 1))
            ∙ ap (λ (fs : List Frame). steps.found (program_in c.args.program.now) c.args.path (mark_in c.args.mark) (scope_in s c.loop-number.inner)
            (statement_tree w.in-Statement.statement) (Rest (scope_in s c.loop-number.inner) (item_trees (drop (c.loop-number.number + 1) c.args.items.now)) (ahead_at
            (held s fs) c.args.ahead)) (steps.found_in (program_in c.args.program.now) c.args.path (mark_in c.args.mark) (scope_in s c.loop-number.inner) (item_trees (drop
            (c.loop-number.number + 1) c.args.items.now)) (ahead_at (held s c.args.frames.now.items) c.args.ahead) o)) c.loop-number.invariant.kept)))
            (c.loop-number.invariant.left s (w.find_behind.ensures.before s b) o);
        before = λ s a. c.loop-number.invariant.before s (w.find_behind.ensures.before s (subst (λ (x : Table). Agrees s x.rows.items) w.table-is a));
        kept = ap (λ (v : Vec Frame Global). v.items) w.frames-is ∙ (w.in_ok-found-in-Statement.ensures.kept w.in-None.is ∙ c.loop-number.invariant.kept);
      }
    ]
