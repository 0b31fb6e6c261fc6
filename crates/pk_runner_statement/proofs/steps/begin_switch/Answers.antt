use Rattle.std.proofs.Common.{ap, ◌∙◌, List}
use Rattle.pk_typed.specs.Views.{value_tree}
use Rattle.pk_meaning.specs.Work as work
use Rattle.pk_meaning.specs.Work.{Work, Ahead, Place}
use Rattle.pk_meaning.specs.Steps.{Config, on, standing, place}
use Rattle.pk_runner_frame.specs.Frames.{Held, held, ahead_at, work_in, expression_in}
use Rattle.pk_runner_state.specs.Shown.{shown, outcome}
use Rattle.pk_runner_statement.proofs.steps.begin_switch.Goals as goal

pub returns : goal.returns
unfolding shown work_in expression_in
returns c = λ s p.
    let old : Config = shown s c.args.state.now in
    let hs : List Held = held s c.args.state.now.frames.items in
    let h : Place = place c.args.at old.here.scope in
    let d : Config = standing h old in
    let a : Ahead = ahead_at hs c.args.ahead in
    c.go_on.ensures s
    ∙ ap (λ (v : Work). outcome (on d (work.Evaluate (value_tree c.args.value.now) v) d.values) old)
    (c.in_ok-convert.ensures.work s ∙ ap (work.Convert c.args.int_type) (c.in_ok-keep.ensures.work s ∙ ap work.Keep (c.in_ok-choose.ensures.work s)))
