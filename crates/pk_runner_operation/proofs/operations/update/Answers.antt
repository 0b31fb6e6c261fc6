use Rattle.std.proofs.Common.{rules, ◌∙◌, refl}
use Rattle.std.specs.Prelude.{IfOk}
use Rattle.pk_meaning.specs.Steps.{Next}
use Rattle.pk_runner_state.specs.declared.states.Answer.TheVariants as answers
use Rattle.pk_runner_state.specs.Shown.{shown, Told}
use Rattle.pk_runner_operation.proofs.OperationLemmas.{by_value, by_fault, no_top, by_top, laid, converted_same, operated_read}
use Rattle.std.proofs.lemmas.Int.{to_z-of_z}
use mir.Syntax.{w128}
use mir.Val.{SFits}
use Rattle.pk_runner_operation.proofs.operations.update.Goals as goal

pub returns-in-None : goal.returns-in-None
unfolding shown
returns-in-None c = λ s p ch. no_top (λ (n : Next). Told s c.args.state.now c.args.state.now answers.Stuck n) _ _ _ c.in-None.ensures c.deref.ensures.value refl

pub returns-in_ok-push-in-Ok : goal.returns-in_ok-push-in-Ok
unfolding shown
returns-in_ok-push-in-Ok c = λ s p ch.
    let fr : SFits w128 c.in-Some.right = search rules in
    let fz : SFits w128 c.in-Ok.value = search rules in
    by_top (λ (n : Next). IfOk c.write.result (λ r. Told s c.args.state.now c.write.new.state r n)) _ _ _ _ _ c.in-Some.ensures c.deref.ensures.value c.without.ensures
    (by_value (λ (n : Next). IfOk c.write.result (λ r. Told s c.args.state.now c.write.new.state r n)) (shown s c.args.state.now) _ _ _ _
    (operated_read _ c.args.op c.args.in_type c.number-left.result _ c.in-Some.right (to_z-of_z w128 c.number-left.result (record { sfits = c.number-left.type_inv })
    ∙ c.number-left.ensures) fr c.in-Ok.ensures)
    (rw (laid _ _ _ c.in_ok-push-in-Ok.ensures.items, (converted_same _ _ _ (record { sfits = c.convert-value.type_inv }) fz c.convert-value.ensures)) at c.write.ensures s))

pub returns-in-Err : goal.returns-in-Err
unfolding shown
returns-in-Err c = λ s p ch.
    let fr : SFits w128 c.in-Some.right = search rules in
    by_top (λ (n : Next). Told s c.args.state.now c.args.state.now c.fail.result n) _ _ _ _ _ c.in-Some.ensures c.deref.ensures.value refl
    (by_fault (λ (n : Next). Told s c.args.state.now c.args.state.now c.fail.result n) (shown s c.args.state.now) _ _ _ _
    (operated_read _ c.args.op c.args.in_type c.number-left.result _ c.in-Some.right (to_z-of_z w128 c.number-left.result (record { sfits = c.number-left.type_inv })
    ∙ c.number-left.ensures) fr c.in-Err.ensures) (c.fail.ensures s))
