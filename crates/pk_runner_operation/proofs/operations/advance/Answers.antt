use Rattle.std.proofs.Common.{rules, ◌∙◌, ap}
use Rattle.std.specs.Prelude.{IfOk, pos}
use Rattle.pk_meaning.specs.Steps as steps
use Rattle.pk_meaning.specs.Steps.{Next}
use Rattle.pk_runner_state.specs.Shown.{shown, Told}
use Rattle.pk_runner_operation.proofs.OperationLemmas.{by_value, by_fault, converted_same}
use Rattle.std.proofs.lemmas.Int.{to_z-of_z}
use mir.Syntax.{w128}
use mir.Val.{SFits}
use Rattle.pk_runner_operation.proofs.operations.advance.Goals as goal

pub returns-in-Ok : goal.returns-in-Ok
unfolding shown
returns-in-Ok c = λ s p ch.
    let fz : SFits w128 c.in-Ok.value = search rules in
    by_value (λ (n : Next). IfOk c.write.result (λ r. Told s c.args.state.now c.write.new.state r n)) (shown s c.args.state.now) _ _ _ _ (c.in-Ok.ensures
    ∙ ap (λ y. steps.operated c.args.op c.args.in_type y (pos 1)) (to_z-of_z w128 c.number-left.result (record { sfits = c.number-left.type_inv }) ∙ c.number-left.ensures))
    (rw (converted_same _ _ _ (record { sfits = c.convert.type_inv }) fz c.convert.ensures) at c.write.ensures s)

pub returns-in-Err : goal.returns-in-Err
unfolding shown
returns-in-Err c = λ s p ch.
    by_fault (λ (n : Next). Told s c.args.state.now c.args.state.now c.fail.result n) (shown s c.args.state.now) _ _ _ _ (c.in-Err.ensures
    ∙ ap (λ y. steps.operated c.args.op c.args.in_type y (pos 1)) (to_z-of_z w128 c.number-left.result (record { sfits = c.number-left.type_inv })
    ∙ c.number-left.ensures)) (c.fail.ensures s)
