use Rattle.std.proofs.Common.{rules, refl}
use Rattle.pk_meaning.specs.Steps.{Next}
use Rattle.pk_runner_state.specs.declared.states.Answer.TheVariants as answers
use Rattle.pk_runner_state.specs.Shown.{shown, Told}
use Rattle.pk_runner_operation.proofs.OperationLemmas.{no_top, by_top, converted_same}
use mir.Syntax.{w128}
use mir.Val.{SFits}
use Rattle.pk_runner_operation.proofs.operations.item.Goals as goal

pub returns-in-None : goal.returns-in-None
unfolding shown
returns-in-None c = λ s p ch. no_top (λ (n : Next). Told s c.args.state.now c.args.state.now answers.Stuck n) _ _ _ c.in-None.ensures c.deref.ensures.value refl

pub returns-in-Some : goal.returns-in-Some
unfolding shown
returns-in-Some c = λ s p ch.
    let fv : SFits w128 c.in-Some.value = search rules in
    by_top (λ (n : Next). Told s c.args.state.now c.write_element.new.state c.write_element.result n) _ _ _ _ _ c.in-Some.ensures c.deref.ensures.value c.without.ensures
    (rw (converted_same _ _ _ (record { sfits = c.convert.type_inv }) fv c.convert.ensures) at c.write_element.ensures s)
