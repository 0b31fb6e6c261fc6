use Rattle.std.proofs.Common.{◌≡◌, ap, ◌∙◌, arith, List}
use Rattle.pk_typed.specs.Trees.{ValueTree, StatementTree}
use Rattle.pk_typed.specs.Views.{value_tree, statement_tree}
use Rattle.pk_meaning.specs.Work as work
use Rattle.pk_meaning.specs.Work.{Work, Ahead, Place}
use Rattle.pk_meaning.specs.Steps.{Config, on, standing, place}
use Rattle.pk_runner_frame.specs.Frames.{Held, held, work_at, ahead_at, work_in, ahead_in, expression_in}
use Rattle.pk_runner_state.specs.Shown.{shown, outcome}
use Rattle.pk_runner_statement.proofs.steps.begin_if.Goals as goal

pub returns : goal.returns
unfolding shown work_in ahead_in expression_in
returns c = λ s p.
    let old : Config = shown s c.args.state.now in
    let hs : List Held = held s c.args.state.now.frames.items in
    let h : Place = place c.args.at old.here.scope in
    let d : Config = standing h old in
    let a : Ahead = ahead_at hs c.args.ahead in
    let t : ValueTree = value_tree c.args.condition.now in
    let b : StatementTree = statement_tree c.args.body.now in
    let yes : work_at (held s c.then.new.frames.items) c.in_ok-yes.yes ≡ work.Do b (work.Join h a) = c.in_ok-yes.ensures.work s ∙ ap (work.Do b) (c.in_ok-join.ensures.ahead s) in
    let join : work_at (held s c.then.new.frames.items) c.in_ok-join.join ≡ work.Go (work.Join h a) =
    c.in_ok-yes.ensures.below s c.in_ok-join.join (omega (arith, c.in_ok-join.ensures.number, c.in_ok-join.ensures.count)) ∙ c.in_ok-join.ensures.work s in
    c.go_on.ensures s
    ∙ (ap (λ (v : Work). outcome (on d (work.Test t (work.Onward h v) (work.Onward h (work_at (held s c.then.new.frames.items) c.in_ok-join.join))) d.values) old) yes
    ∙ ap (λ (v : Work). outcome (on d (work.Test t (work.Onward h (work.Do b (work.Join h a))) (work.Onward h v)) d.values) old) join)
