use Rattle.std.proofs.Common.{◌∙◌, arith}
use Rattle.pk_runner_frame.proofs.FrameLemmas.{below_same, past_limit, if_map}
use Rattle.pk_runner_frame.proofs.frames.below.Goals as goal

pub returns-then-limit-len-clause-number : goal.returns-then-limit-len-clause-number
returns-then-limit-len-clause-number c = λ s. below_same s c.args.frames.now.items c.args.limit c.args.number c.if-number-limit.true (omega arith)

pub returns-else-number-limit-clause-number : goal.returns-else-number-limit-clause-number
returns-else-number-limit-clause-number c = λ s. if_map c.lay_nothing.result _ _ (λ n e. e ∙ past_limit s c.args.frames.now.items c.args.limit c.args.number c.if-number-limit.false) (c.lay_nothing.ensures.empty s)
