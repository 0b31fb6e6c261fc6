use Rattle.std.proofs.Common.{◌≡◌, List, take, sym, ◌∙◌, ap}
use Rattle.pk_meaning.specs.Work as work
use Rattle.pk_meaning.specs.Work.{Ahead}
use Rattle.pk_meaning.specs.Steps.{takes, comes}
use Rattle.pk_runner_frame.specs.declared.works.Frame.{Frame}
use Rattle.pk_runner_frame.specs.Frames.{held, place_in, loop_in, work_in, ahead_at, head, behind, turn}
use Rattle.pk_runner_state.specs.Shown.{shown, outcome}
use Rattle.pk_runner_state.proofs.states.leave_loop.Goals as goal

pub returns-in-Some : goal.returns-in-Some
unfolding work_in shown
returns-in-Some c = λ s.
    let same : ahead_at (held s c.args.state.now.frames.items) c.args.number ≡ work.Again (place_in s c.in-Some.end.here) (loop_in c.in-Some.end.kind) (place_in s c.in-Some.end.end)
    (ahead_at (held s (take c.args.number c.args.state.now.frames.items)) c.in-Some.end.ahead) = ap (λ (fs : List Frame). ahead_at (held s fs) c.args.number) (sym c.deref.ensures.value)
    ∙ (c.in-Some.ensures.1 s ∙ ap (λ (fs : List Frame). work.Again (place_in s c.in-Some.end.here) (loop_in c.in-Some.end.kind) (place_in s c.in-Some.end.end) (ahead_at (held s
    (take c.args.number fs)) c.in-Some.end.ahead)) c.deref.ensures.value) in
    c.come.ensures s
    ∙ (ap (λ (fs : List Frame). outcome (comes (shown s c.args.state.now) (place_in s c.in-Some.end.end) (work.Go (ahead_at (held s fs) c.in-Some.end.ahead))
    (shown s c.args.state.now).values) (shown s c.args.state.now)) c.truncate.ensures.items
    ∙ sym (ap (λ (a : Ahead). outcome (takes (shown s c.args.state.now) (behind a) (shown s c.args.state.now).values) (shown s c.args.state.now)) same))
