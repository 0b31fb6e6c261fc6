use Rattle.std.proofs.Common.{rules, sym, ◌∙◌, refl}
use Rattle.std.specs.Prelude.{reverse}
use Rattle.pk_meaning.specs.Steps as steps
use Rattle.pk_meaning.specs.Steps.{Next}
use Rattle.pk_runner_frame.specs.Frames.{held}
use Rattle.pk_runner_state.specs.declared.states.Answer.TheVariants as answers
use Rattle.pk_runner_state.specs.Shown.{shown, Told}
use Rattle.pk_runner_operation.proofs.OperationLemmas.{no_top, by_top, by_truth, by_falsity, taken}
use Rattle.pk_runner_frame.specs.Frames.{way_in}
use Rattle.std.proofs.lemmas.Int.{to_z-of_z}
use mir.Syntax.{w128}
use mir.Val.{SFits}
use Rattle.pk_runner_operation.proofs.operations.branch.Goals as goal
use Rattle.pk_runner_operation.proofs.operations.branch.Goals.{then-is_nonzero, else-is_nonzero}

pub returns-in-None : goal.returns-in-None
unfolding shown
returns-in-None c = λ s p ch. no_top (λ (n : Next). Told s c.args.state.now c.args.state.now answers.Stuck n) _ _ _ c.in-None.ensures c.deref.ensures.value refl

pub returns-in-Refused : goal.returns-in-Refused
unfolding shown
returns-in-Refused c = λ s p ch.
    let fv : SFits w128 c.in-Some.value = search rules in
    by_top (λ (n : Next). Told s c.args.state.now c.args.state.now answers.Assumed n) _ _ _ _ _ c.in-Some.ensures c.deref.ensures.value refl
    (elim c.if-is_nonzero.branch [
      | then-is_nonzero w ↦ by_truth (λ (n : Next). Told s c.args.state.now c.args.state.now answers.Assumed n) c.in-Some.value c.in-Some.value _ _ (to_z-of_z w128 c.in-Some.value fv)
          (sym w.if-is_nonzero.true ∙ c.is_nonzero.ensures) (rw (sym w.way'-is ∙ c.in-Refused.is) refl)
      | else-is_nonzero w ↦ by_falsity (λ (n : Next). Told s c.args.state.now c.args.state.now answers.Assumed n) c.in-Some.value c.in-Some.value _ _ (to_z-of_z w128 c.in-Some.value fv)
          (sym w.if-is_nonzero.false ∙ c.is_nonzero.ensures) (rw (sym w.way'-is ∙ c.in-Refused.is) refl)
    ])

pub returns-in_default : goal.returns-in_default
unfolding shown
returns-in_default c = λ s p ch.
    let fv : SFits w128 c.in-Some.value = search rules in
    by_top (λ (n : Next). Told s c.args.state.now c.follow.new.state c.follow.result n) _ _ _ _ _ c.in-Some.ensures c.deref.ensures.value c.without.ensures
    (elim c.if-is_nonzero.branch [
      | then-is_nonzero w ↦ by_truth (λ (n : Next). Told s c.args.state.now c.follow.new.state c.follow.result n) c.in-Some.value c.in-Some.value (steps.takes (shown s c.args.state.now)
          (way_in s (held s c.args.state.now.frames.items) c.args.yes) (reverse c.without.new.values.items)) (steps.takes (shown s c.args.state.now) (way_in s
          (held s c.args.state.now.frames.items) c.args.no) (reverse c.without.new.values.items)) (to_z-of_z w128 c.in-Some.value fv) (sym w.if-is_nonzero.true
          ∙ c.is_nonzero.ensures) (c.follow.ensures s ∙ taken s (held s c.args.state.now.frames.items) (shown s c.args.state.now) (reverse c.without.new.values.items)
          (reverse c.without.new.values.items) c.if-is_nonzero.way' _ c.in_default.not-Refused w.way'-is)
      | else-is_nonzero w ↦ by_falsity (λ (n : Next). Told s c.args.state.now c.follow.new.state c.follow.result n) c.in-Some.value c.in-Some.value (steps.takes (shown s c.args.state.now)
          (way_in s (held s c.args.state.now.frames.items) c.args.yes) (reverse c.without.new.values.items)) (steps.takes (shown s c.args.state.now) (way_in s
          (held s c.args.state.now.frames.items) c.args.no) (reverse c.without.new.values.items)) (to_z-of_z w128 c.in-Some.value fv) (sym w.if-is_nonzero.false
          ∙ c.is_nonzero.ensures) (c.follow.ensures s ∙ taken s (held s c.args.state.now.frames.items) (shown s c.args.state.now) (reverse c.without.new.values.items)
          (reverse c.without.new.values.items) c.if-is_nonzero.way' _ c.in_default.not-Refused w.way'-is)
    ])
