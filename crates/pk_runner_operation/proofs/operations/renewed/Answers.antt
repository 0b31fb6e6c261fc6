use Rattle.std.proofs.Common.{rules, refl}
use Rattle.std.specs.Prelude.{IfOk}
use Rattle.pk_meaning.specs.Steps.{Next}
use Rattle.pk_runner_state.specs.declared.states.Answer.TheVariants as answers
use Rattle.pk_runner_state.specs.Shown.{shown, Told}
use Rattle.pk_runner_operation.proofs.OperationLemmas.{by_value, by_fault, no_three, by_three, operated_same, converted_same, under_two}
use mir.Syntax.{w128}
use mir.Val.{SFits}
use Rattle.pk_runner_operation.proofs.operations.renewed.Goals as goal

pub returns-in-None : goal.returns-in-None
unfolding shown
returns-in-None c = λ s p ch.
    no_three (λ (n : Next). Told s c.args.state.now c.args.state.now answers.Stuck n) _ _ _ c.in-None.ensures c.deref.ensures.value refl

pub returns-in-Ok : goal.returns-in-Ok
unfolding shown
returns-in-Ok c = λ s p ch.
    let fu : SFits w128 c.in-Some.left = search rules in
    let fv : SFits w128 c.in-Some.right = search rules in
    let fz : SFits w128 c.in-Ok.value = search rules in
    by_three (λ (n : Next). IfOk c.give.result (λ r. Told s c.args.state.now c.give.new.state r n)) _ _ _ _ _ _ _ c.in-Some.ensures c.deref.ensures.value refl
    (by_value (λ (n : Next). IfOk c.give.result (λ r. Told s c.args.state.now c.give.new.state r n)) (shown s c.args.state.now) _ _ _ _
    (operated_same _ c.args.op c.args.in_type c.in-Some.left c.in-Some.right fu fv c.in-Ok.ensures)
    (rw ((converted_same _ _ _ (record { sfits = c.convert.type_inv }) fz c.convert.ensures), under_two _ _ _ _ _ _ c.in-Some.ensures c.deref.ensures.value c.without.ensures) at c.give.ensures s))

pub returns-in-Err : goal.returns-in-Err
unfolding shown
returns-in-Err c = λ s p ch.
    let fu : SFits w128 c.in-Some.left = search rules in
    let fv : SFits w128 c.in-Some.right = search rules in
    by_three (λ (n : Next). Told s c.args.state.now c.args.state.now c.fail.result n) _ _ _ _ _ _ _ c.in-Some.ensures c.deref.ensures.value refl
    (by_fault (λ (n : Next). Told s c.args.state.now c.args.state.now c.fail.result n) (shown s c.args.state.now) _ _ _ _
    (operated_same _ c.args.op c.args.in_type c.in-Some.left c.in-Some.right fu fv c.in-Err.ensures) (c.fail.ensures s))
