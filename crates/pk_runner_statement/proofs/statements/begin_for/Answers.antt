use Rattle.std.proofs.Common.{◌≡◌, ap, ◌∙◌, sym, List, Option, option_map}
use Rattle.pk_typed.specs.Trees as tree
use Rattle.pk_typed.specs.Views.{statement_tree}
use Rattle.pk_meaning.specs.Objects.{Scope}
use Rattle.pk_meaning.specs.Programs.{Program}
use Rattle.pk_meaning.specs.Work as work
use Rattle.pk_meaning.specs.Work.{Work, Ahead, Loop, Place}
use Rattle.pk_meaning.specs.Steps as steps
use Rattle.pk_meaning.specs.Steps.{Config, on, standing, place}
use Rattle.pk_typed.specs.declared.statements.ForStart.{ForStart}
use Rattle.pk_typed.specs.declared.values.Effect.{Effect}
use Rattle.pk_typed.specs.declared.statements.Declared.{Declared}
use Rattle.pk_typed.specs.Views.{effect_tree, for_start_tree, declared_trees}
use Rattle.pk_runner_frame.specs.Frames.{task_in}
use Rattle.pk_runner_frame.specs.Frames.{Held, held, work_at, ahead_at, scope_in, loop_of, again_of, back, work_in, ahead_in}
use Rattle.pk_runner_state.specs.Shown.{program_in, shown, outcome}
use Rattle.pk_runner_statement.proofs.statements.begin_for.Goals as goal

pub returns-in-Declared-clause-told : goal.returns-in-Declared-clause-told
unfolding shown work_in ahead_in for_start_tree
returns-in-Declared-clause-told c = λ s l agrees is.
    let old : Config = shown s c.args.state.now in
    let hs : List Held = held s c.args.state.now.frames.items in
    let p : Program = program_in c.args.program.now in
    let xs : Scope = scope_in s c.args.state.now.here.scope in
    let h : Place = place c.args.at xs in
    let d : Config = standing h old in
    let a : Ahead = ahead_at hs c.args.ahead in
    let f = for_start_tree c.args.head.now.start in
    let b : Work = work.Back (place c.args.at (steps.for_scope p c.args.state.now.path f xs)) l h a in
    let at : work_at (held s c.then.new.frames.items) c.in_ok-back.back ≡ b =
    c.in_ok-back.ensures.work s
    ∙ (ap back (c.in_ok-again.ensures.ahead s)
    ∙ (ap (λ (ys : Scope). back (again_of (loop_of (statement_tree c.args.statement.now)) (place c.args.at ys) h a)) (c.in_ok-for_scope.ensures.scope s agrees)
    ∙ ap (λ (o : Option Loop). back (again_of o (place c.args.at (steps.for_scope p c.args.state.now.path f xs)) h a)) is)) in
    c.go_on.ensures s
    ∙ (ap (λ (v : Work). outcome (on d (work.Declare (declared_trees c.as_slice.result.now) v) d.values) old) at
    ∙ (ap (λ (ds : List Declared). outcome (on d (work.Declare (declared_trees ds) b) d.values) old) c.as_slice.ensures.value
    ∙ sym (ap (λ (g : ForStart). outcome (steps.for_start d (for_start_tree g) b) old) c.in-Declared.is)))

pub returns-in-None-clause-told : goal.returns-in-None-clause-told
unfolding shown work_in ahead_in for_start_tree
returns-in-None-clause-told c = λ s l agrees is.
    let old : Config = shown s c.args.state.now in
    let hs : List Held = held s c.args.state.now.frames.items in
    let p : Program = program_in c.args.program.now in
    let xs : Scope = scope_in s c.args.state.now.here.scope in
    let h : Place = place c.args.at xs in
    let d : Config = standing h old in
    let a : Ahead = ahead_at hs c.args.ahead in
    let f = for_start_tree c.args.head.now.start in
    let b : Work = work.Back (place c.args.at (steps.for_scope p c.args.state.now.path f xs)) l h a in
    let at : work_at (held s c.then.new.frames.items) c.in_ok-back.back ≡ b =
    c.in_ok-back.ensures.work s
    ∙ (ap back (c.in_ok-again.ensures.ahead s)
    ∙ (ap (λ (ys : Scope). back (again_of (loop_of (statement_tree c.args.statement.now)) (place c.args.at ys) h a)) (c.in_ok-for_scope.ensures.scope s agrees)
    ∙ ap (λ (o : Option Loop). back (again_of o (place c.args.at (steps.for_scope p c.args.state.now.path f xs)) h a)) is)) in
    c.resume.ensures s
    ∙ (ap (λ (v : Work). outcome (on d v d.values) old) at
    ∙ sym (ap (λ (g : ForStart). outcome (steps.for_start d (for_start_tree g) b) old) c.in-Effect.is
    ∙ ap (λ (o : Option Effect). outcome (steps.for_start d (tree.expression (option_map effect_tree o)) b) old) c.in-None.is))

pub returns-in-Some-clause-told : goal.returns-in-Some-clause-told
unfolding shown work_in ahead_in for_start_tree task_in
returns-in-Some-clause-told c = λ s l agrees is.
    let old : Config = shown s c.args.state.now in
    let hs : List Held = held s c.args.state.now.frames.items in
    let p : Program = program_in c.args.program.now in
    let xs : Scope = scope_in s c.args.state.now.here.scope in
    let h : Place = place c.args.at xs in
    let d : Config = standing h old in
    let a : Ahead = ahead_at hs c.args.ahead in
    let f = for_start_tree c.args.head.now.start in
    let b : Work = work.Back (place c.args.at (steps.for_scope p c.args.state.now.path f xs)) l h a in
    let at : work_at (held s c.then.new.frames.items) c.in_ok-back.back ≡ b =
    c.in_ok-back.ensures.work s
    ∙ (ap back (c.in_ok-again.ensures.ahead s)
    ∙ (ap (λ (ys : Scope). back (again_of (loop_of (statement_tree c.args.statement.now)) (place c.args.at ys) h a)) (c.in_ok-for_scope.ensures.scope s agrees)
    ∙ ap (λ (o : Option Loop). back (again_of o (place c.args.at (steps.for_scope p c.args.state.now.path f xs)) h a)) is)) in
    c.go_on-in-Some.ensures s
    ∙ (ap (λ (v : Work). outcome (on d (work.Perform (effect_tree c.in-Some.effect) v) d.values) old) at
    ∙ sym (ap (λ (g : ForStart). outcome (steps.for_start d (for_start_tree g) b) old) c.in-Effect.is
    ∙ ap (λ (o : Option Effect). outcome (steps.for_start d (tree.expression (option_map effect_tree o)) b) old) c.in-Some.is))
