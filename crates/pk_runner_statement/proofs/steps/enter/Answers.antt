use Rattle.std.proofs.Common.{ℕ, ap, ◌∙◌, List}
use Rattle.pk_ctypes.specs.declared.places.Pos.{Pos}
use Rattle.pk_typed.specs.Trees.{ItemTrees}
use Rattle.pk_typed.specs.Views.{item_trees}
use Rattle.pk_meaning.specs.Objects.{Scope}
use Rattle.pk_meaning.specs.Programs.{Program, body_scope}
use Rattle.pk_meaning.specs.Work as work
use Rattle.pk_meaning.specs.Work.{Work, Ahead, Caller}
use Rattle.pk_meaning.specs.Steps as steps
use Rattle.pk_meaning.specs.Steps.{Config, on, place}
use Rattle.pk_runner_frame.specs.Frames.{Held, held, work_at, scope_in, work_in, ahead_in}
use Rattle.pk_runner_state.specs.Shown.{program_in, shown, outcome, Outcome}
use Rattle.pk_runner_statement.proofs.steps.enter.Goals as goal

pub returns-clause-told : goal.returns-clause-told
unfolding shown work_in ahead_in
returns-clause-told c = λ s agrees.
    let old : Config = shown s c.args.state.now in
    let hs : List Held = held s c.args.state.now.frames.items in
    let p : Program = program_in c.args.program.now in
    let k : ℕ = c.args.path in
    let from : Caller = work.Path old.path old.here (work_at hs c.args.number) in
    let entered : Pos → Scope → Work → Outcome = λ at xs w. outcome (on (record old { path = k; here = place at xs }) w old.values) old in
    c.go_on.ensures s
    ∙ (ap (λ (b : Ahead). entered c.opened.result (scope_in s c.in_ok-scope.scope) (work.Go b)) (c.in_ok-rest.ensures.ahead s)
    ∙ (ap (λ (b : Ahead). entered c.opened.result (scope_in s c.in_ok-scope.scope) (work.Go (work.Rest (scope_in s c.in_ok-scope.scope) (item_trees c.items.result.now) b))) (c.in_ok-end.ensures.ahead s)
    ∙ (ap (λ (xs : Scope). entered c.opened.result xs (work.Go (work.Rest xs (item_trees c.items.result.now) (work.End from)))) (c.in_ok-scope.ensures.scope s agrees)
    ∙ (ap (λ (is : ItemTrees). entered c.opened.result (body_scope p k) (work.Go (work.Rest (body_scope p k) is (work.End from)))) c.items.ensures
    ∙ ap (λ (at : Pos). entered at (body_scope p k) (steps.body_work p k from)) c.opened.ensures))))
