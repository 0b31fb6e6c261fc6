use Rattle.std.proofs.Common.{ap, sym, ◌∙◌}
use Rattle.std.specs.Prelude.{Option}
use Rattle.pk_meaning.specs.Work.{Lost}
use Rattle.pk_meaning.specs.Steps.{takes}
use Rattle.pk_runner_frame.specs.Frames.{held, work_in}
use Rattle.pk_runner_state.specs.Shown.{shown, outcome}
use Rattle.pk_runner_jump.specs.declared.jumps.Found.{Found}
use Rattle.pk_runner_jump.specs.Marks.{found_in}
use Rattle.pk_runner_jump.proofs.jumps.jump.Goals as goal

pub returns-in-Some : goal.returns-in-Some
unfolding work_in
returns-in-Some c = λ s. c.come.ensures s
    ∙ sym (ap (λ (f : Option Found). outcome (takes (shown s c.args.state.now) (found_in s (held s c.args.state.now.frames.items) f Lost) (shown s c.args.state.now).values) (shown s c.args.state.now)) c.in-Some.is)
