use Rattle.std.proofs.Common.{subst, ◌≤◌}
use Rattle.pk_runner_frame.specs.Frames.{nothing}
use Rattle.std.proofs.Common.{ℕ, sym, ◌∙◌, ap}
use Rattle.pk_runner_frame.proofs.FrameLemmas.{past_is, if_map}
use Rattle.pk_runner_frame.proofs.frames.known.Goals as goal

pub returns-else-number-len-clause-number : goal.returns-else-number-len-clause-number
returns-else-number-len-clause-number c = λ s. if_map c.lay_nothing.result _ _ (λ n e. e
    ∙ sym (past_is s c.args.frames.now.items c.args.number nothing (subst (λ (m : ℕ). m ≤ c.args.number) (c.len.ensures
    ∙ c.args.frames.now.ok.0) c.if-number-len.false))) (c.lay_nothing.ensures.empty s)
