use Rattle.std.proofs.Common.{rules, ◌-◌, length, take, refl}
use Rattle.std.specs.Prelude.{reverse}
use Rattle.pk_meaning.specs.Steps as steps
use Rattle.pk_meaning.specs.Steps.{Next}
use Rattle.pk_runner_frame.specs.Frames.{held, work_at}
use Rattle.pk_runner_state.specs.declared.states.Answer.TheVariants as answers
use Rattle.pk_runner_state.specs.Shown.{shown, Told}
use Rattle.pk_runner_operation.proofs.OperationLemmas.{no_top, by_top, converted_same, by_truth, by_falsity}
use Rattle.pk_ctypes.specs.declared.types.IntType.TheVariants.{Int}
use Rattle.pk_ctypes.specs.declared.faults.Fault.TheVariants as faults
use Rattle.pk_ctypes.specs.Types.{wrapped}
use mir.Syntax.{w128}
use mir.Val.{SFits}
use Rattle.pk_runner_operation.proofs.operations.claim.Goals as goal

pub returns-in-None : goal.returns-in-None
unfolding shown
returns-in-None c = λ s p ch. no_top (λ (n : Next). Told s c.args.state.now c.args.state.now answers.Stuck n) _ _ _ c.in-None.ensures c.deref.ensures.value refl

pub returns-then-is_nonzero : goal.returns-then-is_nonzero
unfolding shown
returns-then-is_nonzero c = λ s p ch.
    let fv : SFits w128 c.in-Some.value = search rules in
    by_top (λ (n : Next). Told s c.args.state.now c.follow.new.state c.follow.result n) _ _ _ _ _ c.in-Some.ensures c.deref.ensures.value c.without.ensures (by_truth (λ
    (n : Next). Told s c.args.state.now c.follow.new.state c.follow.result n) c.convert.result (wrapped Int c.in-Some.value) (steps.comes (shown s c.args.state.now)
    (shown s c.args.state.now).here (work_at (held s c.args.state.now.frames.items) c.args.number) (reverse c.without.new.values.items)) (steps.fails
    (shown s c.args.state.now) faults.Assert c.args.at) (converted_same Int c.convert.result c.in-Some.value
    (record { sfits = c.convert.type_inv }) fv c.convert.ensures) c.if-is_nonzero.ensures (c.follow.ensures s))

pub returns-else-is_nonzero : goal.returns-else-is_nonzero
unfolding shown
returns-else-is_nonzero c = λ s p ch.
    let fv : SFits w128 c.in-Some.value = search rules in
    by_top (λ (n : Next). Told s c.args.state.now c.args.state.now c.fail.result n) _ _ _ _ _ c.in-Some.ensures c.deref.ensures.value refl (by_falsity (λ
    (n : Next). Told s c.args.state.now c.args.state.now c.fail.result n) c.convert.result (wrapped Int c.in-Some.value) (steps.comes (shown s c.args.state.now)
    (shown s c.args.state.now).here (work_at (held s c.args.state.now.frames.items) c.args.number) (reverse (take
    (length c.args.state.now.values.items - 1) c.args.state.now.values.items))) (steps.fails (shown s c.args.state.now) faults.Assert c.args.at)
    (converted_same Int c.convert.result c.in-Some.value (record { sfits = c.convert.type_inv }) fv c.convert.ensures) c.if-is_nonzero.ensures (c.fail.ensures s))
