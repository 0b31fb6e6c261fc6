use Rattle.std.proofs.Common.{arith}
use Rattle.pk_runner_frame.specs.Frames.{work_in}
use Rattle.pk_runner_frame.proofs.FrameLemmas.{taken_work, taken_way, no_work}
use Rattle.pk_runner_frame.proofs.frames.take.Goals as goal

pub returns-in-Work : goal.returns-in-Work
returns-in-Work c = λ s. taken_work s c.args.frames.now.items _ c.args.number c.index-frame.result.now c.in-Work.work (omega arith) c.index-frame.ensures c.in-Work.is c.truncate.ensures.items

pub returns-in-Ahead : goal.returns-in-Ahead
unfolding work_in
returns-in-Ahead c = λ s. taken_way s c.args.frames.now.items _ c.args.number c.index-frame.result.now c.in-Ahead.field-0 (omega arith) c.index-frame.ensures c.in-Ahead.is c.truncate-in-Ahead.ensures.items

pub returns-else-number-len : goal.returns-else-number-len
unfolding work_in
returns-else-number-len c = λ s. no_work s c.args.frames.now.items c.args.number (omega arith)
