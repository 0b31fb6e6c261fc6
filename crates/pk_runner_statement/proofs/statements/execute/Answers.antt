use Rattle.std.proofs.Common.{◌≡◌, ap, ◌∙◌, sym, subst, List, Some, IfOk, option_map}
use Rattle.std.specs.Prelude.{ℤ}
use Rattle.pk_typed.specs.Trees as tree
use Rattle.pk_typed.specs.Trees.{StatementTree}
use Rattle.pk_typed.specs.Views.{value_tree, statement_tree, item_trees}
use Rattle.pk_meaning.specs.Objects.{Scope}
use Rattle.pk_meaning.specs.Programs.{Program}
use Rattle.pk_meaning.specs.Work as work
use Rattle.pk_meaning.specs.Work.{Work, Ahead, Loop}
use Rattle.pk_meaning.specs.Steps as steps
use Rattle.pk_meaning.specs.Steps.{Config, on, comes, standing, place}
use Rattle.pk_typed.specs.declared.statements.Statement.{Statement}
use Rattle.pk_typed.specs.Views.{effect_tree, for_start_tree}
use Rattle.pk_typed.proofs.ViewLemmas.{tree_of_block}
use Rattle.pk_runner_frame.specs.Frames.{task_in}
use Rattle.pk_runner_frame.specs.Frames.{Held, held, ahead_at, loop_of, work_in, ahead_in}
use Rattle.pk_runner_state.specs.Shown.{program_in, shown, Told, outcome}
use Rattle.pk_typed.specs.declared.statements.ForHead.{ForHead}
use Rattle.pk_typed.specs.declared.statements.Item.{Item}
use Rattle.pk_runner_statement.proofs.statements.execute.Goals as goal

pub returns-in_ok-rest-in-Block-clause-told : goal.returns-in_ok-rest-in-Block-clause-told
unfolding shown work_in ahead_in statement_tree loop_of task_in
returns-in_ok-rest-in-Block-clause-told c = λ s agrees.
    let old : Config = shown s c.args.state.now in
    let hs : List Held = held s c.args.state.now.frames.items in
    let p : Program = program_in c.args.program.now in
    let a : Ahead = ahead_at hs c.args.ahead in
    let xs : Scope = old.here.scope in
    c.go_on.ensures s
    ∙ (ap (λ (b : Ahead). outcome (on old (work.Go b) old.values) old) (c.in_ok-rest-in-Block.ensures.ahead s)
    ∙ (ap (λ (is : List Item). outcome (on old (work.Go (work.Rest xs (item_trees is) a)) old.values) old) c.as_slice.ensures.value
    ∙ sym (ap (λ (u : Statement). outcome (steps.does p old (statement_tree u) a) old) c.in-Block.is ∙ ap (λ (t : StatementTree). outcome (steps.does p old t a) old) (tree_of_block c.in-Block.field-0 c.in-Block.items))))

pub returns-in-Empty-clause-told : goal.returns-in-Empty-clause-told
unfolding shown work_in ahead_in statement_tree loop_of task_in
returns-in-Empty-clause-told c = λ s agrees.
    let old : Config = shown s c.args.state.now in
    let hs : List Held = held s c.args.state.now.frames.items in
    let p : Program = program_in c.args.program.now in
    let a : Ahead = ahead_at hs c.args.ahead in
    let xs : Scope = old.here.scope in
    c.go_on-in-Empty.ensures s ∙ sym (ap (λ (u : Statement). outcome (steps.does p old (statement_tree u) a) old) c.in-Empty.is)

pub returns-in_ok-way-in-Effect-clause-told : goal.returns-in_ok-way-in-Effect-clause-told
unfolding shown work_in ahead_in statement_tree loop_of task_in
returns-in_ok-way-in-Effect-clause-told c = λ s agrees.
    let old : Config = shown s c.args.state.now in
    let hs : List Held = held s c.args.state.now.frames.items in
    let p : Program = program_in c.args.program.now in
    let a : Ahead = ahead_at hs c.args.ahead in
    let xs : Scope = old.here.scope in
    c.go_on-in-Effect.ensures s
    ∙ (ap (λ (v : Work). outcome (on (steps.standing_at c.in-Effect.at old) (work.Perform (effect_tree c.in-Effect.effect) v) old.values) old) (c.in_ok-way-in-Effect.ensures s)
    ∙ sym (ap (λ (u : Statement). outcome (steps.does p old (statement_tree u) a) old) c.in-Effect.is))

pub returns-in-Label-clause-told : goal.returns-in-Label-clause-told
unfolding shown work_in ahead_in statement_tree loop_of task_in
returns-in-Label-clause-told c = λ s agrees.
    let old : Config = shown s c.args.state.now in
    let hs : List Held = held s c.args.state.now.frames.items in
    let p : Program = program_in c.args.program.now in
    let a : Ahead = ahead_at hs c.args.ahead in
    let xs : Scope = old.here.scope in
    c.come.ensures s
    ∙ (ap (λ (u : Statement). outcome (comes old (place c.in-Label.at xs) (work.Do (statement_tree u) a) old.values) old) c.deref.ensures
    ∙ sym (ap (λ (u : Statement). outcome (steps.does p old (statement_tree u) a) old) c.in-Label.is))

pub returns-in-Case-clause-told : goal.returns-in-Case-clause-told
unfolding shown work_in ahead_in statement_tree loop_of task_in
returns-in-Case-clause-told c = λ s agrees.
    let old : Config = shown s c.args.state.now in
    let hs : List Held = held s c.args.state.now.frames.items in
    let p : Program = program_in c.args.program.now in
    let a : Ahead = ahead_at hs c.args.ahead in
    let xs : Scope = old.here.scope in
    c.come-in-Case.ensures s
    ∙ (ap (λ (u : Statement). outcome (comes old (place c.in-Case.at xs) (work.Do (statement_tree u) a) old.values) old) c.deref-in-Case.ensures
    ∙ sym (ap (λ (u : Statement). outcome (steps.does p old (statement_tree u) a) old) c.in-Case.is))

pub returns-in-Default-clause-told : goal.returns-in-Default-clause-told
unfolding shown work_in ahead_in statement_tree loop_of task_in
returns-in-Default-clause-told c = λ s agrees.
    let old : Config = shown s c.args.state.now in
    let hs : List Held = held s c.args.state.now.frames.items in
    let p : Program = program_in c.args.program.now in
    let a : Ahead = ahead_at hs c.args.ahead in
    let xs : Scope = old.here.scope in
    c.come-in-Default.ensures s
    ∙ (ap (λ (u : Statement). outcome (comes old (place c.in-Default.at xs) (work.Do (statement_tree u) a) old.values) old) c.deref-in-Default.ensures
    ∙ sym (ap (λ (u : Statement). outcome (steps.does p old (statement_tree u) a) old) c.in-Default.is))

pub returns-in-If-clause-told : goal.returns-in-If-clause-told
unfolding shown work_in ahead_in statement_tree loop_of task_in
returns-in-If-clause-told c = λ s agrees.
    let old : Config = shown s c.args.state.now in
    let hs : List Held = held s c.args.state.now.frames.items in
    let p : Program = program_in c.args.program.now in
    let a : Ahead = ahead_at hs c.args.ahead in
    let xs : Scope = old.here.scope in
    subst (λ (t : StatementTree). IfOk c.begin_if.result (λ r. Told s c.args.state.now c.begin_if.new.state r (steps.does p old t a)))
    (ap (λ (u : Statement). tree.if_then c.in-If.at (value_tree c.in-If.condition) (statement_tree u)) c.deref-in-If.ensures ∙ sym (ap statement_tree c.in-If.is))
    (c.begin_if.ensures s p)

pub returns-in-IfElse-clause-told : goal.returns-in-IfElse-clause-told
unfolding shown work_in ahead_in statement_tree loop_of task_in
returns-in-IfElse-clause-told c = λ s agrees.
    let old : Config = shown s c.args.state.now in
    let hs : List Held = held s c.args.state.now.frames.items in
    let p : Program = program_in c.args.program.now in
    let a : Ahead = ahead_at hs c.args.ahead in
    let xs : Scope = old.here.scope in
    subst (λ (t : StatementTree). IfOk c.begin_if_else.result (λ r. Told s c.args.state.now c.begin_if_else.new.state r (steps.does p old t a)))
    (ap (λ (u : Statement). tree.if_else c.in-IfElse.at (value_tree c.in-IfElse.condition) (statement_tree u) (statement_tree c.deref-in-IfElse-2.result.now)) c.deref-in-IfElse.ensures
    ∙ (ap (λ (u : Statement). tree.if_else c.in-IfElse.at (value_tree c.in-IfElse.condition) (statement_tree c.in-IfElse.if_true.value) (statement_tree u)) c.deref-in-IfElse-2.ensures
    ∙ sym (ap statement_tree c.in-IfElse.is)))
    (c.begin_if_else.ensures s p)

pub returns-in-Switch-clause-told : goal.returns-in-Switch-clause-told
unfolding shown work_in ahead_in statement_tree loop_of task_in
returns-in-Switch-clause-told c = λ s agrees.
    let old : Config = shown s c.args.state.now in
    let hs : List Held = held s c.args.state.now.frames.items in
    let p : Program = program_in c.args.program.now in
    let a : Ahead = ahead_at hs c.args.ahead in
    let xs : Scope = old.here.scope in
    subst (λ (t : StatementTree). IfOk c.begin_switch.result (λ r. Told s c.args.state.now c.begin_switch.new.state r (steps.does p old t a)))
    (ap (λ (zs : List ℤ). tree.switch c.in-Switch.at c.in-Switch.int_type (value_tree c.in-Switch.value) zs c.in-Switch.has_default (statement_tree c.deref-in-Switch.result.now)) c.as_slice-in-Switch.ensures.value
    ∙ (ap (λ (u : Statement). tree.switch c.in-Switch.at c.in-Switch.int_type (value_tree c.in-Switch.value) c.in-Switch.cases.items c.in-Switch.has_default
    (statement_tree u)) c.deref-in-Switch.ensures ∙ sym (ap statement_tree c.in-Switch.is)))
    (c.begin_switch.ensures s p)

pub returns-in-While-clause-told : goal.returns-in-While-clause-told
unfolding shown work_in ahead_in statement_tree loop_of task_in
returns-in-While-clause-told c = λ s agrees.
    let old : Config = shown s c.args.state.now in
    let hs : List Held = held s c.args.state.now.frames.items in
    let p : Program = program_in c.args.program.now in
    let a : Ahead = ahead_at hs c.args.ahead in
    let xs : Scope = old.here.scope in
    let l : Loop = work.While (value_tree c.in-While.field-1) (statement_tree c.in-While.field-2.value) in
    let is : loop_of (statement_tree c.args.statement.now) ≡ Some l = ap (λ (u : Statement). loop_of (statement_tree u)) c.in-While.is in
    subst (λ (t : StatementTree). IfOk c.begin_loop.result (λ r. Told s c.args.state.now c.begin_loop.new.state r (steps.does p old t a)))
    (sym (ap statement_tree c.in-While.is))
    (c.begin_loop.ensures s l is)

pub returns-in-Do-clause-told : goal.returns-in-Do-clause-told
unfolding shown work_in ahead_in statement_tree loop_of task_in
returns-in-Do-clause-told c = λ s agrees.
    let old : Config = shown s c.args.state.now in
    let hs : List Held = held s c.args.state.now.frames.items in
    let p : Program = program_in c.args.program.now in
    let a : Ahead = ahead_at hs c.args.ahead in
    let xs : Scope = old.here.scope in
    let l : Loop = work.DoWhile (statement_tree c.in-Do.field-1.value) (value_tree c.in-Do.field-2) in
    let is : loop_of (statement_tree c.args.statement.now) ≡ Some l = ap (λ (u : Statement). loop_of (statement_tree u)) c.in-Do.is in
    subst (λ (t : StatementTree). IfOk c.begin_loop-in-Do.result (λ r. Told s c.args.state.now c.begin_loop-in-Do.new.state r (steps.does p old t a)))
    (sym (ap statement_tree c.in-Do.is))
    (c.begin_loop-in-Do.ensures s l is)

pub returns-in-For-clause-told : goal.returns-in-For-clause-told
unfolding shown work_in ahead_in statement_tree loop_of task_in
returns-in-For-clause-told c = λ s agrees.
    let old : Config = shown s c.args.state.now in
    let hs : List Held = held s c.args.state.now.frames.items in
    let p : Program = program_in c.args.program.now in
    let a : Ahead = ahead_at hs c.args.ahead in
    let xs : Scope = old.here.scope in
    let l : Loop = work.For (option_map value_tree c.in-For.head.value.test) (option_map effect_tree c.in-For.head.value.step) (statement_tree c.in-For.field-2.value) in
    let is : loop_of (statement_tree c.args.statement.now) ≡ Some l = ap (λ (u : Statement). loop_of (statement_tree u)) c.in-For.is in
    subst (λ (t : StatementTree). IfOk c.begin_for.result (λ r. Told s c.args.state.now c.begin_for.new.state r (steps.does p old t a)))
    (sym (ap statement_tree c.in-For.is))
    (subst (λ (g : ForHead). IfOk c.begin_for.result (λ r. Told s c.args.state.now c.begin_for.new.state r (steps.for_start (steps.standing_at c.in-For.at old) (for_start_tree g.start)
    (work.Back (place c.in-For.at (steps.for_scope p c.args.state.now.path (for_start_tree g.start) xs)) l (place c.in-For.at xs) a)))) c.deref-in-For.ensures
    (c.begin_for.ensures.told s l agrees is))

pub returns-in-Goto-clause-told : goal.returns-in-Goto-clause-told
unfolding shown work_in ahead_in statement_tree loop_of task_in
returns-in-Goto-clause-told c = λ s agrees.
    let old : Config = shown s c.args.state.now in
    let hs : List Held = held s c.args.state.now.frames.items in
    let p : Program = program_in c.args.program.now in
    let a : Ahead = ahead_at hs c.args.ahead in
    let xs : Scope = old.here.scope in
    subst (λ (t : StatementTree). IfOk c.go_to.result (λ r. Told s c.args.state.now c.go_to.new.state r (steps.does p old t a)))
    (sym (ap statement_tree c.in-Goto.is))
    (c.go_to.ensures.told s agrees)

pub returns-in-Continue-clause-told : goal.returns-in-Continue-clause-told
unfolding shown work_in ahead_in statement_tree loop_of task_in
returns-in-Continue-clause-told c = λ s agrees.
    let old : Config = shown s c.args.state.now in
    let hs : List Held = held s c.args.state.now.frames.items in
    let p : Program = program_in c.args.program.now in
    let a : Ahead = ahead_at hs c.args.ahead in
    let xs : Scope = old.here.scope in
    subst (λ (t : StatementTree). IfOk c.continue_loop.result (λ r. Told s c.args.state.now c.continue_loop.new.state r (steps.does p old t a)))
    (sym (ap statement_tree c.in-Continue.is))
    (c.continue_loop.ensures s)

pub returns-in-Break-clause-told : goal.returns-in-Break-clause-told
unfolding shown work_in ahead_in statement_tree loop_of task_in
returns-in-Break-clause-told c = λ s agrees.
    let old : Config = shown s c.args.state.now in
    let hs : List Held = held s c.args.state.now.frames.items in
    let p : Program = program_in c.args.program.now in
    let a : Ahead = ahead_at hs c.args.ahead in
    let xs : Scope = old.here.scope in
    c.break_out.ensures s ∙ sym (ap (λ (u : Statement). outcome (steps.does p old (statement_tree u) a) old) c.in-Break.is)

pub returns-in-Return-clause-told : goal.returns-in-Return-clause-told
unfolding shown work_in ahead_in statement_tree loop_of task_in
returns-in-Return-clause-told c = λ s agrees.
    let old : Config = shown s c.args.state.now in
    let hs : List Held = held s c.args.state.now.frames.items in
    let p : Program = program_in c.args.program.now in
    let a : Ahead = ahead_at hs c.args.ahead in
    let xs : Scope = old.here.scope in
    subst (λ (t : StatementTree). IfOk c.return_value.result (λ r. Told s c.args.state.now c.return_value.new.state r (steps.does p old t a)))
    (sym (ap statement_tree c.in-Return.is))
    (c.return_value.ensures s)
