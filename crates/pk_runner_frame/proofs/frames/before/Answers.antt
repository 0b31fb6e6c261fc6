use Rattle.pk_runner_frame.proofs.FrameLemmas.{if_both, laid_ahead, laid_way}
use Rattle.pk_runner_frame.proofs.frames.before.Goals as goal

pub returns-clause-ahead : goal.returns-clause-ahead
returns-clause-ahead c = λ s. if_both c.lay.result _ _ _ (λ n e f. laid_ahead s c.args.frames.now.items c.lay.new.frames.items c.args.ahead n e f) c.lay.ensures.frames c.lay.ensures.number

pub returns-clause-work : goal.returns-clause-work
returns-clause-work c = λ s. if_both c.lay.result _ _ _ (λ n e f. laid_way s c.args.frames.now.items c.lay.new.frames.items c.args.ahead n e f) c.lay.ensures.frames c.lay.ensures.number
