use Rattle.std.proofs.Common.{rules, ◌<◌, ◌+◌, subst, List, get_or, drop, ◌≡◌, ◌∷◌, [], ℕ, ◌-◌, length, take, ◌∙◌, ap, refl}
use Rattle.std.specs.Prelude.{IfOk, ℤ, reverse, pos}
use Rattle.pk_meaning.specs.Objects.{local}
use Rattle.pk_meaning.specs.Work.{Bind}
use Rattle.pk_graph.specs.Steps.{number_at}
use Rattle.pk_ctypes.specs.declared.types.IntType.{IntType}
use Rattle.std.proofs.lemmas.List.{get_or_default}
use Rattle.pk_meaning.specs.Steps as steps
use Rattle.pk_meaning.specs.Steps.{Next}
use Rattle.pk_runner_frame.specs.Frames.{held, work_at}
use Rattle.pk_runner_state.specs.declared.states.Answer.TheVariants as answers
use Rattle.pk_runner_state.specs.Shown.{shown, Told}
use Rattle.pk_runner_operation.proofs.OperationLemmas.{converted_same, by_bind, by_below, no_bind, number_is, rest_is}
use Rattle.pk_ctypes.specs.declared.types.IntType.TheVariants.{Char}
use Rattle.pk_ctypes.specs.Types.{wrapped}
use Rattle.pk_runner_frame.specs.Frames.{work_in}
use mir.Syntax.{w128}
use mir.Val.{to_z, of_z, SFits}
use Rattle.pk_runner_operation.proofs.operations.bind.Goals as goal

pub returns-in-None : goal.returns-in-None
unfolding shown
returns-in-None c = λ s.
    no_bind (λ (n : Next). Told s c.args.state.now c.args.state.now answers.Stuck n) (shown s c.args.state.now) _ _ _ _ c.deref.result.now c.if-types-eq0.false c.in-None.ensures (ap reverse c.deref.ensures.value) refl

pub returns-in_ok-bind-in-Some : goal.returns-in_ok-bind-in-Some
unfolding shown work_in
returns-in_ok-bind-in-Some c = λ s.
    let fv : SFits w128 c.index.result.now = search rules in
    let there : c.in-Some.place < length c.args.state.now.values.items = subst (λ (zs : List ℤ). c.in-Some.place < length zs) c.deref.ensures.value c.in-Some.ensures.0 in
    let value : to_z w128 (of_z w128 c.convert-value.result) ≡ wrapped (get_or c.args.types.now 0 Char) (number_at c.args.state.now.values.items c.in-Some.place) =
    converted_same (get_or c.args.types.now 0 Char) c.convert-value.result c.index.result.now (record { sfits = c.convert-value.type_inv }) fv c.convert-value.ensures
    ∙ ap (wrapped (get_or c.args.types.now 0 Char)) (c.index.ensures ∙ get_or_default c.args.state.now.values.items c.in-Some.place c.index.result.now (pos 0) there) in
    let next : c.in_ok-next-in-Some.next ≡ c.args.parameter + 1 = number_is _ _ _ _ c.in_ok-next-in-Some.ensures.ok_part c.checked_add.ensures in
    let behind : work_at (held s c.then.new.frames.items) c.in_ok-bind-in-Some.bind ≡ Bind c.args.path (c.args.parameter + 1) (drop 1 c.args.types.now) (work_at (held s c.args.state.now.frames.items) c.args.number) =
    c.in_ok-bind-in-Some.ensures.work s ∙ (ap (λ (n : ℕ). Bind c.args.path n (take (length c.args.types.now - 1) (drop 1 c.args.types.now)) (work_at
    (held s c.args.state.now.frames.items) c.args.number)) next
    ∙ ap (λ (us : List IntType). Bind c.args.path (c.args.parameter + 1) us (work_at (held s c.args.state.now.frames.items) c.args.number)) (rest_is c.args.types.now)) in
    by_bind (λ (n : Next). IfOk c.write.result (λ r. Told s c.args.state.now c.write.new.state r n)) (shown s c.args.state.now) c.args.path c.args.parameter c.args.types.now (work_at
    (held s c.args.state.now.frames.items) c.args.number) Char c.if-types-eq0.false
    (by_below (λ (n : Next). IfOk c.write.result (λ r. Told s c.args.state.now c.write.new.state r n)) (length c.args.types.now - 1) (λ v vs. steps.writes (shown s c.args.state.now)
    (local c.args.path c.args.parameter) (wrapped (get_or c.args.types.now 0 Char) v ∷ []) (Bind c.args.path (c.args.parameter + 1) (drop 1 c.args.types.now) (work_at
    (held s c.args.state.now.frames.items) c.args.number)) vs) c.deref.result.now c.args.state.now.values.items c.without_at.new.values.items c.in-Some.place c.in-Some.ensures.1
    c.deref.ensures.value c.without_at.ensures
    (rw (value, behind) at (c.write.ensures s)))
