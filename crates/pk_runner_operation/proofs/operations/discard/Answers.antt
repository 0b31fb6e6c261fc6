use Rattle.std.proofs.Common.{refl}
use Rattle.pk_meaning.specs.Steps.{Next}
use Rattle.pk_runner_state.specs.declared.states.Answer.TheVariants as answers
use Rattle.pk_runner_state.specs.Shown.{shown, Told}
use Rattle.pk_runner_operation.proofs.OperationLemmas.{no_top, by_top}
use Rattle.pk_runner_operation.proofs.operations.discard.Goals as goal

pub returns-in-None : goal.returns-in-None
unfolding shown
returns-in-None c = λ s p ch. no_top (λ (n : Next). Told s c.args.state.now c.args.state.now answers.Stuck n) _ _ _ c.in-None.ensures c.deref.ensures.value refl

pub returns-in-Some : goal.returns-in-Some
unfolding shown
returns-in-Some c = λ s p ch.
    by_top (λ (n : Next). Told s c.args.state.now c.resume.new.state c.resume.result n) _ _ _ _ _ c.in-Some.ensures c.deref.ensures.value c.without.ensures (c.resume.ensures s)
