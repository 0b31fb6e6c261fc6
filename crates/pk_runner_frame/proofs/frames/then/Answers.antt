use Rattle.pk_runner_frame.specs.Frames.{work_in}
use Rattle.std.proofs.Common.{ap}
use Rattle.pk_runner_frame.proofs.FrameLemmas.{if_both, on_map, laid_work, laid_below}
use Rattle.pk_runner_frame.proofs.frames.then.Goals as goal

pub returns-clause-work : goal.returns-clause-work
unfolding work_in
returns-clause-work c = λ s. if_both c.lay.result _ _ _ (λ n e f. laid_work s c.args.frames.now.items c.lay.new.frames.items c.args.work n e f) c.lay.ensures.frames c.lay.ensures.number

pub returns-clause-below : goal.returns-clause-below
returns-clause-below c = λ s i h. on_map c.lay.result _ _ (λ e. laid_below s c.args.frames.now.items c.lay.new.frames.items _ i e h) c.lay.ensures.frames
