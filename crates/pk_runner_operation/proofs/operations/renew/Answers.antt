use Rattle.std.proofs.Common.{rules, refl}
use Rattle.pk_meaning.specs.Steps.{Next}
use Rattle.pk_runner_state.specs.declared.states.Answer.TheVariants as answers
use Rattle.pk_runner_state.specs.Shown.{shown, Told}
use Rattle.pk_runner_operation.proofs.OperationLemmas.{by_value, by_fault, by_index, no_index, no_three, by_three, operated_same, converted_same, index_is}
use mir.Syntax.{w128}
use mir.Val.{SFits}
use Rattle.pk_runner_operation.proofs.operations.renew.Goals as goal

pub returns-in-None : goal.returns-in-None
unfolding shown
returns-in-None c = λ s p ch.
    no_three (λ (n : Next). Told s c.args.state.now c.args.state.now answers.Stuck n) _ _ _ c.in-None.ensures c.deref.ensures.value refl

pub returns-in-Some-place_of : goal.returns-in-Some-place_of
unfolding shown
returns-in-Some-place_of c = λ s p ch.
    let fi : SFits w128 c.in-Some.index = search rules in
    let fu : SFits w128 c.in-Some.left = search rules in
    let fv : SFits w128 c.in-Some.right = search rules in
    let fz : SFits w128 c.in-Ok.value = search rules in
    by_three (λ (n : Next). Told s c.args.state.now c.write_element.new.state c.write_element.result n) _ _ _ _ _ _ _ c.in-Some.ensures c.deref.ensures.value c.without.ensures
    (by_value (λ (n : Next). Told s c.args.state.now c.write_element.new.state c.write_element.result n) (shown s c.args.state.now) _ _ _ _
    (operated_same _ c.args.op c.args.in_type c.in-Some.left c.in-Some.right fu fv c.in-Ok.ensures)
    (by_index (λ (n : Next). Told s c.args.state.now c.write_element.new.state c.write_element.result n) c.args.array.length c.in-Some.index _ _ _ fi c.in-Some-place_of.ensures
    (rw (
      (converted_same _ _ _ (record { sfits = c.convert.type_inv }) fz c.convert.ensures),
      index_is c.args.array.length c.in-Some.index c.in-Some-place_of.place fi
          c.in-Some-place_of.ensures,
    ) at c.write_element.ensures s)))

pub returns-in-None-place_of : goal.returns-in-None-place_of
unfolding shown
returns-in-None-place_of c = λ s p ch.
    let fi : SFits w128 c.in-Some.index = search rules in
    let fu : SFits w128 c.in-Some.left = search rules in
    let fv : SFits w128 c.in-Some.right = search rules in
    by_three (λ (n : Next). Told s c.args.state.now c.args.state.now c.fail.result n) _ _ _ _ _ _ _ c.in-Some.ensures c.deref.ensures.value refl
    (by_value (λ (n : Next). Told s c.args.state.now c.args.state.now c.fail.result n) (shown s c.args.state.now) _ _ _ _ (operated_same _ c.args.op c.args.in_type c.in-Some.left c.in-Some.right fu fv c.in-Ok.ensures)
    (no_index (λ (n : Next). Told s c.args.state.now c.args.state.now c.fail.result n) c.args.array.length c.in-Some.index _ _ fi c.in-None-place_of.ensures (c.fail.ensures s)))

pub returns-in-Err : goal.returns-in-Err
unfolding shown
returns-in-Err c = λ s p ch.
    let fu : SFits w128 c.in-Some.left = search rules in
    let fv : SFits w128 c.in-Some.right = search rules in
    by_three (λ (n : Next). Told s c.args.state.now c.args.state.now c.fail-in-Err.result n) _ _ _ _ _ _ _ c.in-Some.ensures c.deref.ensures.value refl
    (by_fault (λ (n : Next). Told s c.args.state.now c.args.state.now c.fail-in-Err.result n) (shown s c.args.state.now) _ _ _ _
    (operated_same _ c.args.op c.args.in_type c.in-Some.left c.in-Some.right fu fv c.in-Err.ensures) (c.fail-in-Err.ensures s))
