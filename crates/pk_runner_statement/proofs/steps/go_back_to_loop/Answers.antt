use Rattle.std.proofs.Common.{◌≡◌, ap, ◌∙◌, sym, List, take}
use Rattle.pk_meaning.specs.Work as work
use Rattle.pk_meaning.specs.Work.{Ahead}
use Rattle.pk_meaning.specs.Steps as steps
use Rattle.pk_meaning.specs.Steps.{Config, on, comes, place}
use Rattle.pk_runner_frame.specs.declared.works.Frame.{Frame}
use Rattle.pk_runner_frame.specs.Frames.{Held, held, ahead_at, place_in, loop_in, turn, back, work_in}
use Rattle.pk_runner_state.specs.Shown.{shown, outcome}
use Rattle.pk_runner_statement.proofs.steps.go_back_to_loop.Goals as goal

pub returns-in-Some : goal.returns-in-Some
unfolding shown work_in
returns-in-Some c = λ s p ch is.
    let old : Config = shown s c.args.state.now in
    let hs : List Held = held s c.args.state.now.frames.items in
    let a : Ahead = ahead_at (held s (take c.args.number c.args.state.now.frames.items)) c.in-Some.end.ahead in
    let at : ahead_at hs c.args.number ≡ work.Again (place_in s c.in-Some.end.here) (loop_in c.in-Some.end.kind) (place_in s c.in-Some.end.end) a =
    ap (λ (fs : List Frame). ahead_at (held s fs) c.args.number) (sym c.deref.ensures.value)
    ∙ (c.in-Some.ensures.1 s ∙ ap (λ (fs : List Frame). work.Again (place_in s c.in-Some.end.here) (loop_in c.in-Some.end.kind) (place_in s c.in-Some.end.end) (ahead_at (held s
    (take c.args.number fs)) c.in-Some.end.ahead)) c.deref.ensures.value) in
    c.come.ensures s
    ∙ (ap (λ (b : Ahead). outcome (comes old (place_in s c.in-Some.end.here) (turn b) old.values) old) at
    ∙ sym (ap (λ (b : Ahead). outcome (steps.step_of p ch old (back b)) old) at))
