use Rattle.std.proofs.Common.{arith}
use Rattle.pk_runner_frame.specs.Frames.{work_in}
use Rattle.pk_runner_frame.proofs.FrameLemmas.{way_is}
use Rattle.pk_runner_frame.proofs.frames.way_there.Goals as goal

pub returns-in-Ahead : goal.returns-in-Ahead
returns-in-Ahead c = λ s. way_is s c.args.frames.now.items c.args.ahead c.index-frame.result.now c.in-Ahead.field-0 (omega arith) c.index-frame.ensures c.in-Ahead.is

pub returns-in-Work : goal.returns-in-Work
unfolding work_in
returns-in-Work c = λ s. c.then.ensures.work s

pub returns-else-ahead-len : goal.returns-else-ahead-len
unfolding work_in
returns-else-ahead-len c = λ s. c.then-else-ahead-len.ensures.work s
