use Rattle.std.proofs.Common.{ap, ◌∙◌}
use Rattle.pk_meaning.specs.Work.{Work}
use Rattle.pk_meaning.specs.Steps.{Config, on, standing}
use Rattle.pk_runner_frame.specs.Frames.{place_in}
use Rattle.pk_runner_state.specs.Shown.{shown, outcome}
use Rattle.pk_runner_statement.proofs.declarations.go_past.Goals as goal

pub returns : goal.returns
unfolding shown
returns c = λ s.
    let old : Config = shown s c.args.state.now in
    let d : Config = standing (place_in s c.args.here) old in
    c.resume.ensures s ∙ ap (λ (v : Work). outcome (on d v d.values) old) (c.in_ok-number.ensures s)
