use Rattle.std.proofs.Common.{ap, ◌∙◌, sym, subst, arith, List, ◌∷◌, IfOk}
use Rattle.pk_typed.specs.declared.statements.Item.{Item}
use Rattle.pk_typed.specs.Views.{item_trees, statement_tree}
use Rattle.pk_meaning.specs.Objects.{Scope}
use Rattle.pk_meaning.specs.Programs.{Program}
use Rattle.pk_meaning.specs.Work as work
use Rattle.pk_meaning.specs.Work.{Ahead}
use Rattle.pk_meaning.specs.Steps as steps
use Rattle.pk_meaning.specs.Steps.{Config, on, standing, place}
use Rattle.pk_runner_frame.specs.Frames.{Held, held, ahead_at, scope_in, work_in, ahead_in}
use Rattle.pk_runner_state.specs.Shown.{program_in, shown, Told, outcome}
use Rattle.pk_runner_statement.proofs.StatementLemmas.{at_front, none_there, tail}
use Rattle.pk_runner_statement.proofs.declarations.rest.Goals as goal

pub returns-then-items-eq0-clause-told : goal.returns-then-items-eq0-clause-told
unfolding shown work_in
returns-then-items-eq0-clause-told c = λ s agrees.
    let p : Program = program_in c.args.program.now in
    let hs : List Held = held s c.args.state.now.frames.items in
    c.go_on.ensures s
    ∙ sym (ap (λ (is : List Item). outcome (steps.rest p c.args.chosen.now (shown s c.args.state.now) (scope_in s c.args.scope) (item_trees is) (ahead_at hs c.args.ahead))
    (shown s c.args.state.now)) (none_there c.args.items.now c.if-items-eq0.true))

pub returns-in-Declared-clause-told : goal.returns-in-Declared-clause-told
unfolding shown
returns-in-Declared-clause-told c = λ s agrees.
    let p : Program = program_in c.args.program.now in
    let hs : List Held = held s c.args.state.now.frames.items in
    subst (λ (is : List Item). IfOk c.declare.result (λ r. Told s c.args.state.now c.declare.new.state r (steps.rest p c.args.chosen.now (shown s c.args.state.now) (scope_in s c.args.scope)
    (item_trees is) (ahead_at hs c.args.ahead))))
    (sym (at_front c.args.items.now c.index-items-0.result (omega (arith, c.if-items-eq0.false)) c.index-items-0.is ∙ ap (λ (i : Item). i ∷ tail c.args.items.now) c.in-Declared.is))
    (c.declare.ensures.told s c.args.state.now.here.at agrees)

pub returns-in_ok-rest-in-Statement-clause-told : goal.returns-in_ok-rest-in-Statement-clause-told
unfolding shown work_in ahead_in
returns-in_ok-rest-in-Statement-clause-told c = λ s agrees.
    let p : Program = program_in c.args.program.now in
    let old : Config = shown s c.args.state.now in
    let hs : List Held = held s c.args.state.now.frames.items in
    let xs : Scope = scope_in s c.args.scope in
    let d : Config = standing (place c.args.state.now.here.at xs) old in
    c.go_on-in-Statement.ensures s
    ∙ (ap (λ (a : Ahead). outcome (on d (work.Do (statement_tree c.in-Statement.statement) a) d.values) old) (c.in_ok-rest-in-Statement.ensures.ahead s)
    ∙ sym (ap (λ (is : List Item). outcome (steps.rest p c.args.chosen.now old xs (item_trees is) (ahead_at hs c.args.ahead)) old)
    (at_front c.args.items.now c.index-items-0.result (omega (arith, c.if-items-eq0.false)) c.index-items-0.is ∙ ap (λ (i : Item). i ∷ tail c.args.items.now) c.in-Statement.is)))
