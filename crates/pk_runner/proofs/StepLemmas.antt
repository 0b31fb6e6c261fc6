-- A step, by the work in hand.
use Rattle.std.proofs.Common.{◌≡◌, sym, subst}
use Rattle.pk_graph.specs.Steps.{Numbers}
use Rattle.pk_meaning.specs.Programs.{Program}
use Rattle.pk_meaning.specs.Steps.{Next, step, step_of}
use Rattle.pk_runner_frame.specs.declared.works.Work as code_work
use Rattle.pk_runner_frame.specs.Frames.{Reading, held, work_in}
use Rattle.pk_runner_state.specs.declared.states.State.{State}
use Rattle.pk_runner_state.specs.Shown.{shown}

pub by_work : (P : Next → Type 0) (p : Program) (ch : Numbers) (s : Reading) (c : State) (w : code_work.Work) → c.work ≡ w → P (step_of p ch (shown s c) (work_in s (held s c.frames.items) w)) → P (step p ch (shown s c))
unfolding shown
by_work P p ch s c w e h = subst (λ (v : code_work.Work). P (step_of p ch (shown s c) (work_in s (held s c.frames.items) v))) (sym e) h
