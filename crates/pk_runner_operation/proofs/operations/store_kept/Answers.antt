use Rattle.std.proofs.Common.{rules, refl}
use Rattle.pk_meaning.specs.Steps.{Next}
use Rattle.pk_runner_state.specs.declared.states.Answer.TheVariants as answers
use Rattle.pk_runner_state.specs.Shown.{shown, Told}
use Rattle.pk_runner_operation.proofs.OperationLemmas.{by_index, no_index, no_two, by_two, laid, index_is}
use Rattle.std.proofs.lemmas.Int.{to_z-of_z}
use mir.Syntax.{w128}
use mir.Val.{SFits}
use Rattle.pk_runner_operation.proofs.operations.store_kept.Goals as goal

pub returns-in-None : goal.returns-in-None
unfolding shown
returns-in-None c = λ s p ch. no_two (λ (n : Next). Told s c.args.state.now c.args.state.now answers.Stuck n) _ _ _ c.in-None.ensures c.deref.ensures.value refl

pub returns-in_ok-push-in-Some-place_of : goal.returns-in_ok-push-in-Some-place_of
unfolding shown
returns-in_ok-push-in-Some-place_of c = λ s p ch.
    let fi : SFits w128 c.in-Some.index = search rules in
    let fv : SFits w128 c.in-Some.value = search rules in
    by_two (λ (n : Next). Told s c.args.state.now c.write_element.new.state c.write_element.result n) _ _ _ _ _ _ c.in-Some.ensures c.deref.ensures.value c.without.ensures
    (by_index (λ (n : Next). Told s c.args.state.now c.write_element.new.state c.write_element.result n) c.args.array.length c.in-Some.index _ _ _ fi c.in-Some-place_of.ensures
    (rw (
      laid _ _ _ c.in_ok-push-in-Some-place_of.ensures.items,
      (to_z-of_z w128 c.in-Some.value fv),
      index_is c.args.array.length c.in-Some.index c.in-Some-place_of.place fi c.in-Some-place_of.ensures,
    ) at c.write_element.ensures s))

pub returns-in-None-place_of : goal.returns-in-None-place_of
unfolding shown
returns-in-None-place_of c = λ s p ch.
    let fi : SFits w128 c.in-Some.index = search rules in
    by_two (λ (n : Next). Told s c.args.state.now c.args.state.now c.fail.result n) _ _ _ _ _ _ c.in-Some.ensures c.deref.ensures.value refl
    (no_index (λ (n : Next). Told s c.args.state.now c.args.state.now c.fail.result n) c.args.array.length c.in-Some.index _ _ fi c.in-None-place_of.ensures (c.fail.ensures s))
