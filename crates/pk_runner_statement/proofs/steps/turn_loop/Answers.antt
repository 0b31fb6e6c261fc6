use Rattle.std.proofs.Common.{◌≡◌, ap, ◌∙◌, sym, List, take, Option, Some, None, option_map}
use Rattle.pk_typed.specs.declared.values.Value.{Value}
use Rattle.pk_typed.specs.Trees.{StatementTree}
use Rattle.pk_typed.specs.Views.{value_tree, statement_tree}
use Rattle.pk_meaning.specs.Work as work
use Rattle.pk_meaning.specs.Work.{Ahead, Loop}
use Rattle.pk_meaning.specs.Steps as steps
use Rattle.pk_meaning.specs.Steps.{Config, on, comes, place}
use Rattle.pk_runner_frame.specs.declared.works.Frame.{Frame}
use Rattle.pk_runner_frame.specs.declared.works.Loop as code_loop
use Rattle.pk_runner_frame.specs.declared.works.Loop.TheVariants as loops
use Rattle.pk_typed.specs.Views.{effect_tree}
use Rattle.pk_runner_frame.specs.Frames.{Held, held, ahead_at, place_in, loop_in, into, behind, turn, work_in, expression_in}
use Rattle.pk_runner_state.specs.Shown.{shown, outcome}
use Rattle.pk_runner_statement.proofs.steps.turn_loop.Goals as goal

pub returns-in-While : goal.returns-in-While
unfolding shown work_in expression_in loop_in
returns-in-While c = λ s p ch is.
    let old : Config = shown s c.args.state.now in
    let hs : List Held = held s c.args.state.now.frames.items in
    let a : Ahead = ahead_at (held s (take c.args.number c.args.state.now.frames.items)) c.in-Some.end.ahead in
    let at : ahead_at hs c.args.number ≡ work.Again (place_in s c.in-Some.end.here) (loop_in c.in-Some.end.kind) (place_in s c.in-Some.end.end) a =
    ap (λ (fs : List Frame). ahead_at (held s fs) c.args.number) (sym c.deref.ensures.value)
    ∙ (c.in-Some.ensures.1 s ∙ ap (λ (fs : List Frame). work.Again (place_in s c.in-Some.end.here) (loop_in c.in-Some.end.kind) (place_in s c.in-Some.end.end) (ahead_at (held s
    (take c.args.number fs)) c.in-Some.end.ahead)) c.deref.ensures.value) in
    let same : ahead_at hs c.args.number ≡ work.Again (place_in s c.in-Some.end.here) (loop_in (loops.While c.in-While.test c.in-While.field-1)) (place_in s c.in-Some.end.end) a =
    at ∙ ap (λ (l : code_loop.Loop). work.Again (place_in s c.in-Some.end.here) (loop_in l) (place_in s c.in-Some.end.end) a) c.in-While.is in
    c.go_on.ensures s
    ∙ (ap (λ (b : Ahead). outcome (on old (work.Test (value_tree c.in-While.test.now) (into b) (behind b)) old.values) old) same
    ∙ sym (ap (λ (b : Ahead). outcome (steps.step_of p ch old (turn b)) old) same))

pub returns-in-DoWhile : goal.returns-in-DoWhile
unfolding shown work_in loop_in
returns-in-DoWhile c = λ s p ch is.
    let old : Config = shown s c.args.state.now in
    let hs : List Held = held s c.args.state.now.frames.items in
    let a : Ahead = ahead_at (held s (take c.args.number c.args.state.now.frames.items)) c.in-Some.end.ahead in
    let at : ahead_at hs c.args.number ≡ work.Again (place_in s c.in-Some.end.here) (loop_in c.in-Some.end.kind) (place_in s c.in-Some.end.end) a =
    ap (λ (fs : List Frame). ahead_at (held s fs) c.args.number) (sym c.deref.ensures.value)
    ∙ (c.in-Some.ensures.1 s ∙ ap (λ (fs : List Frame). work.Again (place_in s c.in-Some.end.here) (loop_in c.in-Some.end.kind) (place_in s c.in-Some.end.end) (ahead_at (held s
    (take c.args.number fs)) c.in-Some.end.ahead)) c.deref.ensures.value) in
    let same : ahead_at hs c.args.number ≡ work.Again (place_in s c.in-Some.end.here) (loop_in (loops.DoWhile c.in-DoWhile.body c.in-DoWhile.field-1)) (place_in s c.in-Some.end.end) a =
    at ∙ ap (λ (l : code_loop.Loop). work.Again (place_in s c.in-Some.end.here) (loop_in l) (place_in s c.in-Some.end.end) a) c.in-DoWhile.is in
    c.go_on-in-DoWhile.ensures s
    ∙ (ap (λ (b : Ahead). outcome (on old (work.Do (statement_tree c.in-DoWhile.body.now) b) old.values) old) same
    ∙ sym (ap (λ (b : Ahead). outcome (steps.step_of p ch old (turn b)) old) same))

pub returns-in-None-test : goal.returns-in-None-test
unfolding shown work_in loop_in
returns-in-None-test c = λ s p ch is.
    let old : Config = shown s c.args.state.now in
    let hs : List Held = held s c.args.state.now.frames.items in
    let a : Ahead = ahead_at (held s (take c.args.number c.args.state.now.frames.items)) c.in-Some.end.ahead in
    let at : ahead_at hs c.args.number ≡ work.Again (place_in s c.in-Some.end.here) (loop_in c.in-Some.end.kind) (place_in s c.in-Some.end.end) a =
    ap (λ (fs : List Frame). ahead_at (held s fs) c.args.number) (sym c.deref.ensures.value)
    ∙ (c.in-Some.ensures.1 s ∙ ap (λ (fs : List Frame). work.Again (place_in s c.in-Some.end.here) (loop_in c.in-Some.end.kind) (place_in s c.in-Some.end.end) (ahead_at (held s
    (take c.args.number fs)) c.in-Some.end.ahead)) c.deref.ensures.value) in
    let same : ahead_at hs c.args.number ≡ work.Again (place_in s c.in-Some.end.here) (loop_in (loops.For c.in-For.test c.in-For.field-1 c.in-For.body)) (place_in s c.in-Some.end.end) a =
    at ∙ ap (λ (l : code_loop.Loop). work.Again (place_in s c.in-Some.end.here) (loop_in l) (place_in s c.in-Some.end.end) a) c.in-For.is in
    let third = c.in-For.field-1.now in
    let body : StatementTree = statement_tree c.in-For.body.now in
    let seen : ahead_at hs c.args.number ≡ work.Again (place_in s c.in-Some.end.here) (work.For None (option_map effect_tree third) body) (place_in s c.in-Some.end.end) a =
    same ∙ ap (λ (o : Option Value). work.Again (place_in s c.in-Some.end.here) (work.For (option_map value_tree o) (option_map effect_tree third) body) (place_in s c.in-Some.end.end) a) c.in-None-test.is in
    c.come.ensures s
    ∙ (ap (λ (b : Ahead). outcome (comes old (place_in s c.in-Some.end.here) (work.Do body b) old.values) old) seen
    ∙ sym (ap (λ (b : Ahead). outcome (steps.step_of p ch old (turn b)) old) seen))

pub returns-in-Some-test : goal.returns-in-Some-test
unfolding shown work_in expression_in loop_in
returns-in-Some-test c = λ s p ch is.
    let old : Config = shown s c.args.state.now in
    let hs : List Held = held s c.args.state.now.frames.items in
    let a : Ahead = ahead_at (held s (take c.args.number c.args.state.now.frames.items)) c.in-Some.end.ahead in
    let at : ahead_at hs c.args.number ≡ work.Again (place_in s c.in-Some.end.here) (loop_in c.in-Some.end.kind) (place_in s c.in-Some.end.end) a =
    ap (λ (fs : List Frame). ahead_at (held s fs) c.args.number) (sym c.deref.ensures.value)
    ∙ (c.in-Some.ensures.1 s ∙ ap (λ (fs : List Frame). work.Again (place_in s c.in-Some.end.here) (loop_in c.in-Some.end.kind) (place_in s c.in-Some.end.end) (ahead_at (held s
    (take c.args.number fs)) c.in-Some.end.ahead)) c.deref.ensures.value) in
    let same : ahead_at hs c.args.number ≡ work.Again (place_in s c.in-Some.end.here) (loop_in (loops.For c.in-For.test c.in-For.field-1 c.in-For.body)) (place_in s c.in-Some.end.end) a =
    at ∙ ap (λ (l : code_loop.Loop). work.Again (place_in s c.in-Some.end.here) (loop_in l) (place_in s c.in-Some.end.end) a) c.in-For.is in
    let third = c.in-For.field-1.now in
    let body : StatementTree = statement_tree c.in-For.body.now in
    let seen : ahead_at hs c.args.number ≡ work.Again (place_in s c.in-Some.end.here) (work.For (Some (value_tree c.in-Some-test.test)) (option_map effect_tree third) body) (place_in s c.in-Some.end.end) a =
    same ∙ ap (λ (o : Option Value). work.Again (place_in s c.in-Some.end.here) (work.For (option_map value_tree o) (option_map effect_tree third) body) (place_in s c.in-Some.end.end) a) c.in-Some-test.is in
    c.go_on-in-Some-test.ensures s
    ∙ (ap (λ (b : Ahead). outcome (on old (work.Test (value_tree c.in-Some-test.test) (into b) (behind b)) old.values) old) seen
    ∙ sym (ap (λ (b : Ahead). outcome (steps.step_of p ch old (turn b)) old) seen))
