use Rattle.std.proofs.Common.{◌≡◌, ℕ, ◌-◌, ◌+◌, ◌*◌, ◌<◌, ◌∙◌, get_or, true, ap, sym, subst, arith, refl, inl}
use Rattle.pk_plan.specs.Shape.{exits}
use Rattle.pk_words.specs.Board.{members_at}
use Rattle.pk_words.specs.Views.{head_view, arm_view}
use Rattle.pk_words.proofs.Members.{head_first}
use Rattle.pk_board.specs.Earliest.{AreEarliest}
use Rattle.pk_board.proofs.Asking.{at_board}
use Rattle.pk_board.proofs.Telling.{idle_at}
use Rattle.pk_board.proofs.Restarting.{arm_amount, next_is, next_there, resetting_at, one_left, more_left, head_told, member_told}
use Rattle.pk_board.proofs.boards.Board.arm.Goals as goal

some_of : (n : ℕ) → (n ≡ 0 → ⊥) → 0 < n
some_of n not = omega (arith, not)

pub bounds-members-left : goal.bounds-members-left
bounds-members-left g c =
    next_there c.args.self.now.subject.wiring.plan c.plan-plan.result.now c.args.resetting c.component_of-component.result.now c.members.result.now c.exit-exit.result c.left-left.result c.requires.resetting c.exit-exit.ensures c.left-left.ensures
    (c.plan-plan.ensures ∙ ap (λ b. b.subject.wiring.plan) c.self.view_is) c.component_of-component.ensures.component c.members.ensures

pub arm_head-run-requires-clause-resets : goal.arm_head-run-requires-clause-resets
arm_head-run-requires-clause-resets g c κs within =
    resetting_at c.args.pass.now.view c.pass.inside.seat.me.0 c.args.resetting c.exit-exit.result 1 c.requires.resets (ap (λ p. p.view) c.pass.view_is) c.exit-exit.ensures
    (one_left c.left-left.result c.args.resetting.left c.left-left.ensures c.requires.resetting.some_left c.if-left-eq0.true)

pub arm_head-run-requires-clause-below : goal.arm_head-run-requires-clause-below
arm_head-run-requires-clause-below g c κs within =
    let board = c.args.self.now in
    let meaning = g.Y.System.meaning in
    let inside = c.self.inside in
    let kept = at_board meaning board inside.subject inside.table.shared.key inside.table.shared.table_id c.self.view_is c.self.invariant.kept in
    let at = next_is (meaning board.subject.system) board.subject.wiring c.args.resetting c.plan-plan.result.now c.component_of-component.result.now c.members.result.now c.exit-exit.result c.left-left.result kept.wired c.requires.resetting c.exit-exit.ensures c.left-left.ensures
    (c.plan-plan.ensures ∙ ap (λ b. b.subject.wiring.plan) c.self.view_is) c.component_of-component.ensures.component c.members.ensures in
    at.below

pub arm_head-run-requires-clause-head : goal.arm_head-run-requires-clause-head
arm_head-run-requires-clause-head g c κs within =
    let board = c.args.self.now in
    let meaning = g.Y.System.meaning in
    let inside = c.self.inside in
    let kept = at_board meaning board inside.subject inside.table.shared.key inside.table.shared.table_id c.self.view_is c.self.invariant.kept in
    let at = next_is (meaning board.subject.system) board.subject.wiring c.args.resetting c.plan-plan.result.now c.component_of-component.result.now c.members.result.now c.exit-exit.result c.left-left.result kept.wired c.requires.resetting c.exit-exit.ensures c.left-left.ensures
    (c.plan-plan.ensures ∙ ap (λ b. b.subject.wiring.plan) c.self.view_is) c.component_of-component.ensures.component c.members.ensures in
    let exit = subst (λ (j : ℕ). exits board.subject.wiring.plan j ≡ true) (sym c.exit-exit.ensures) c.requires.resetting.exit in
    at.member ∙ ap (λ (i : ℕ). get_or (members_at board.subject.wiring.plan c.exit-exit.result) i 0) c.if-left-eq0.true ∙ head_first kept.wired c.exit-exit.result exit

pub invariant_of-pass : goal.invariant_of-pass
invariant_of-pass g c =
    idle_at (head_view c.exit-exit.result (get_or c.members.result.now (c.left-left.result - 1) 0) (c.arm_head-run.result * 1048576 + 262145) c.pass.inside.seat.me.0) c.arm_head-run.new.seat.me c.arm_head-run.ensures.armed.0 refl

pub returns-then-left-eq0-clause-armed : goal.returns-then-left-eq0-clause-armed
returns-then-left-eq0-clause-armed g c =
    let board = c.args.self.now in
    let meaning = g.Y.System.meaning in
    let inside = c.self.inside in
    let kept = at_board meaning board inside.subject inside.table.shared.key inside.table.shared.table_id c.self.view_is c.self.invariant.kept in
    let at = next_is (meaning board.subject.system) board.subject.wiring c.args.resetting c.plan-plan.result.now c.component_of-component.result.now c.members.result.now c.exit-exit.result c.left-left.result kept.wired c.requires.resetting c.exit-exit.ensures c.left-left.ensures
    (c.plan-plan.ensures ∙ ap (λ b. b.subject.wiring.plan) c.self.view_is) c.component_of-component.ensures.component c.members.ensures in
    head_told (meaning board.subject.system) board.subject.wiring c.args.resetting c.exit-exit.result (get_or c.members.result.now (c.left-left.result - 1) 0) c.arm_head-run.result c.new.result c.pass.inside.seat.me c.arm_head-run.new.seat.me c.args.pass.now.view
    c.arm_head-run.ensures.armed (ap (λ p. p.view) c.pass.view_is) c.exit-exit.ensures (one_left c.left-left.result c.args.resetting.left c.left-left.ensures c.requires.resetting.some_left c.if-left-eq0.true)
    (at.member ∙ ap (λ (i : ℕ). get_or (members_at board.subject.wiring.plan c.exit-exit.result) i 0) c.if-left-eq0.true) c.new.ensures

pub inner-requires-clause-earliest : goal.inner-requires-clause-earliest
inner-requires-clause-earliest g c = subst (λ p. AreEarliest p c.self.inside.earliest) (sym c.plan-plan.ensures) c.self.invariant.earliest

pub inner-requires-clause-component : goal.inner-requires-clause-component
inner-requires-clause-component g c = c.component_of-component.ensures.of

pub inner-requires-clause-element : goal.inner-requires-clause-element
inner-requires-clause-element g c =
    let board = c.args.self.now in
    let meaning = g.Y.System.meaning in
    let inside = c.self.inside in
    let kept = at_board meaning board inside.subject inside.table.shared.key inside.table.shared.table_id c.self.view_is c.self.invariant.kept in
    let at = next_is (meaning board.subject.system) board.subject.wiring c.args.resetting c.plan-plan.result.now c.component_of-component.result.now c.members.result.now c.exit-exit.result c.left-left.result kept.wired c.requires.resetting c.exit-exit.ensures c.left-left.ensures
    (c.plan-plan.ensures ∙ ap (λ b. b.subject.wiring.plan) c.self.view_is) c.component_of-component.ensures.component c.members.ensures in
    at.listed

pub inner-requires-clause-within : goal.inner-requires-clause-within
inner-requires-clause-within g c =
    let board = c.args.self.now in
    let meaning = g.Y.System.meaning in
    let inside = c.self.inside in
    let kept = at_board meaning board inside.subject inside.table.shared.key inside.table.shared.table_id c.self.view_is c.self.invariant.kept in
    let at = next_is (meaning board.subject.system) board.subject.wiring c.args.resetting c.plan-plan.result.now c.component_of-component.result.now c.members.result.now c.exit-exit.result c.left-left.result kept.wired c.requires.resetting c.exit-exit.ensures c.left-left.ensures
    (c.plan-plan.ensures ∙ ap (λ b. b.subject.wiring.plan) c.self.view_is) c.component_of-component.ensures.component c.members.ensures in
    inl at.inside

pub overflow_sub-amount : goal.overflow_sub-amount
overflow_sub-amount g c =
    let board = c.args.self.now in
    let meaning = g.Y.System.meaning in
    let inside = c.self.inside in
    let kept = at_board meaning board inside.subject inside.table.shared.key inside.table.shared.table_id c.self.view_is c.self.invariant.kept in
    let at = next_is (meaning board.subject.system) board.subject.wiring c.args.resetting c.plan-plan.result.now c.component_of-component.result.now c.members.result.now c.exit-exit.result c.left-left.result kept.wired c.requires.resetting c.exit-exit.ensures c.left-left.ensures
    (c.plan-plan.ensures ∙ ap (λ b. b.subject.wiring.plan) c.self.view_is) c.component_of-component.ensures.component c.members.ensures in
    omega (arith, c.inner.ensures, at.small)

pub arm_member-requires-clause-resets : goal.arm_member-requires-clause-resets
arm_member-requires-clause-resets g c κs within =
    resetting_at c.args.pass.now.view c.pass.inside.seat.me.0 c.args.resetting c.exit-exit.result (c.left-left.result - 1 + 1) c.requires.resets (ap (λ p. p.view) c.pass.view_is) c.exit-exit.ensures
    (more_left c.left-left.result c.args.resetting.left c.left-left.ensures c.requires.resetting.some_left)

pub arm_member-requires-clause-below : goal.arm_member-requires-clause-below
arm_member-requires-clause-below g c κs within =
    let board = c.args.self.now in
    let meaning = g.Y.System.meaning in
    let inside = c.self.inside in
    let kept = at_board meaning board inside.subject inside.table.shared.key inside.table.shared.table_id c.self.view_is c.self.invariant.kept in
    let at = next_is (meaning board.subject.system) board.subject.wiring c.args.resetting c.plan-plan.result.now c.component_of-component.result.now c.members.result.now c.exit-exit.result c.left-left.result kept.wired c.requires.resetting c.exit-exit.ensures c.left-left.ensures
    (c.plan-plan.ensures ∙ ap (λ b. b.subject.wiring.plan) c.self.view_is) c.component_of-component.ensures.component c.members.ensures in
    at.below

pub arm_member-requires-clause-member : goal.arm_member-requires-clause-member
arm_member-requires-clause-member g c κs within =
    let board = c.args.self.now in
    let meaning = g.Y.System.meaning in
    let inside = c.self.inside in
    let kept = at_board meaning board inside.subject inside.table.shared.key inside.table.shared.table_id c.self.view_is c.self.invariant.kept in
    let at = next_is (meaning board.subject.system) board.subject.wiring c.args.resetting c.plan-plan.result.now c.component_of-component.result.now c.members.result.now c.exit-exit.result c.left-left.result kept.wired c.requires.resetting c.exit-exit.ensures c.left-left.ensures
    (c.plan-plan.ensures ∙ ap (λ b. b.subject.wiring.plan) c.self.view_is) c.component_of-component.ensures.component c.members.ensures in
    at.member

pub arm_member-requires-clause-amount : goal.arm_member-requires-clause-amount
arm_member-requires-clause-amount g c κs within =
    let board = c.args.self.now in
    let meaning = g.Y.System.meaning in
    let inside = c.self.inside in
    let kept = at_board meaning board inside.subject inside.table.shared.key inside.table.shared.table_id c.self.view_is c.self.invariant.kept in
    let at = next_is (meaning board.subject.system) board.subject.wiring c.args.resetting c.plan-plan.result.now c.component_of-component.result.now c.members.result.now c.exit-exit.result c.left-left.result kept.wired c.requires.resetting c.exit-exit.ensures c.left-left.ensures
    (c.plan-plan.ensures ∙ ap (λ b. b.subject.wiring.plan) c.self.view_is) c.component_of-component.ensures.component c.members.ensures in
    arm_amount c.inner.result _ (c.inner.ensures ∙ at.count) (subst (λ (n : ℕ). n < 262144) at.count at.small)

pub invariant_of-pass-else-left-eq0 : goal.invariant_of-pass-else-left-eq0
invariant_of-pass-else-left-eq0 g c =
    let told = c.arm_member.ensures.armed in
    idle_at (arm_view c.exit-exit.result (c.left-left.result - 1) (get_or c.members.result.now (c.left-left.result - 1) 0) told.0 c.pass.inside.seat.me.0) c.arm_member.new.seat.me told.1.0 refl

pub returns-else-left-eq0-clause-armed : goal.returns-else-left-eq0-clause-armed
returns-else-left-eq0-clause-armed g c =
    let board = c.args.self.now in
    let meaning = g.Y.System.meaning in
    let inside = c.self.inside in
    let kept = at_board meaning board inside.subject inside.table.shared.key inside.table.shared.table_id c.self.view_is c.self.invariant.kept in
    let at = next_is (meaning board.subject.system) board.subject.wiring c.args.resetting c.plan-plan.result.now c.component_of-component.result.now c.members.result.now c.exit-exit.result c.left-left.result kept.wired c.requires.resetting c.exit-exit.ensures c.left-left.ensures
    (c.plan-plan.ensures ∙ ap (λ b. b.subject.wiring.plan) c.self.view_is) c.component_of-component.ensures.component c.members.ensures in
    let told = c.arm_member.ensures.armed in
    member_told (meaning board.subject.system) board.subject.wiring c.args.resetting c.new-else-left-eq0.result c.exit-exit.result (c.left-left.result - 1) (get_or c.members.result.now (c.left-left.result - 1) 0) told.0 c.pass.inside.seat.me c.arm_member.new.seat.me c.args.pass.now.view
    told.1 (ap (λ p. p.view) c.pass.view_is) c.exit-exit.ensures (more_left c.left-left.result c.args.resetting.left c.left-left.ensures c.requires.resetting.some_left) (some_of (c.left-left.result - 1) c.if-left-eq0.false) at.member c.new-else-left-eq0.ensures
