use Rattle.std.proofs.Common.{◌∙◌, ap}
use Rattle.pk_meaning.specs.Work.{Way, Lost}
use Rattle.pk_meaning.specs.Steps.{takes}
use Rattle.pk_runner_frame.specs.Frames.{held, ahead_in}
use Rattle.pk_runner_state.specs.Shown.{shown, outcome}
use Rattle.pk_runner_jump.proofs.JumpLemmas.{moved}
use Rattle.pk_runner_jump.proofs.jumps.go_to_case.Goals as goal

pub returns-clause-told : goal.returns-clause-told
unfolding shown ahead_in
returns-clause-told c = λ s a.
    let d = shown s c.args.state.now in
    c.jump.ensures s
    ∙ (moved s (held s c.find_behind.new.frames.items) c.in_ok-found.found d _ _ d.values
    ∙ ap (λ (w : Way). outcome (takes d w d.values) d) (c.in_ok-found.ensures.found s a Lost))
