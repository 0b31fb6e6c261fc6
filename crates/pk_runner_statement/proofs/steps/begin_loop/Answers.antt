use Rattle.std.proofs.Common.{ap, ◌∙◌, List, Option}
use Rattle.pk_meaning.specs.Work.{Ahead, Loop, Place}
use Rattle.pk_meaning.specs.Steps.{Config, comes, standing, place}
use Rattle.pk_runner_frame.specs.Frames.{Held, held, ahead_at, again_of, turn, work_in, ahead_in}
use Rattle.pk_runner_state.specs.Shown.{shown, outcome}
use Rattle.pk_runner_statement.proofs.steps.begin_loop.Goals as goal

pub returns : goal.returns
unfolding shown work_in ahead_in
returns c = λ s l is.
    let old : Config = shown s c.args.state.now in
    let hs : List Held = held s c.args.state.now.frames.items in
    let h : Place = place c.args.at old.here.scope in
    let d : Config = standing h old in
    let a : Ahead = ahead_at hs c.args.ahead in
    c.come.ensures s
    ∙ (ap (λ (b : Ahead). outcome (comes old h (turn b) old.values) old) (c.in_ok-again.ensures.ahead s)
    ∙ ap (λ (o : Option Loop). outcome (comes old h (turn (again_of o h h a)) old.values) old) is)
