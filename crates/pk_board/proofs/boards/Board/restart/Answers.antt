use Rattle.std.proofs.Common.{◌≡◌, ℕ, ◌+◌, ◌*◌, ◌<◌, ◌∙◌, inr, length, true, ap, sym, subst}
use Rattle.pk_plan.specs.Plans.{members_of}
use Rattle.pk_plan.specs.Shape.{exits, shape_of}
use Rattle.pk_core.specs.Events.{inner}
use Rattle.pk_words.specs.Board.{members_at}
use Rattle.pk_words.specs.Told.{Restarted}
use Rattle.pk_board.specs.Earliest.{AreEarliest}
use Rattle.pk_board.proofs.Asking.{at_board}
use Rattle.pk_board.proofs.Restarting.{exit_again, exit_count, is_resetting, restart_asked}
use Rattle.pk_board.proofs.boards.Board.restart.Goals as goal

pub component_of-component-requires : goal.component_of-component-requires
component_of-component-requires g c =
    let inside = c.self.inside in
    let table = inside.table.shared.table_id in
    let board = c.args.self.now in
    let meaning = g.Y.System.meaning in
    let key = inside.table.shared.key in
    let kept = at_board meaning board inside.subject key table c.self.view_is c.self.invariant.kept in
    let written = c.requires.written in
    let exit = exit_again (meaning board.subject.system) board.subject key table (record { element = c.args.exit; run = c.args.run }) written.0 kept written.3 in
    let plan_is = c.plan-plan.ensures ∙ ap (λ b. b.subject.wiring.plan) c.self.view_is in
    subst (λ p. exits p c.args.exit ≡ true) (sym plan_is) exit

pub inner-waits-requires-clause-earliest : goal.inner-waits-requires-clause-earliest
inner-waits-requires-clause-earliest g c = subst (λ p. AreEarliest p c.self.inside.earliest) (sym c.plan-plan.ensures) c.self.invariant.earliest

pub inner-waits-requires-clause-component : goal.inner-waits-requires-clause-component
inner-waits-requires-clause-component g c = c.component_of-component.ensures.of

pub inner-waits-requires-clause-element : goal.inner-waits-requires-clause-element
inner-waits-requires-clause-element g c = subst (λ p. c.args.exit < p.elements) (sym (c.plan-plan.ensures ∙ ap (λ b. b.subject.wiring.plan) c.self.view_is)) c.requires.below

pub inner-waits-requires-clause-within : goal.inner-waits-requires-clause-within
inner-waits-requires-clause-within g c = inr (sym c.component_of-component.ensures.exit)

pub store_told-requires : goal.store_told-requires
store_told-requires g c =
    let inside = c.self.inside in
    let table = inside.table.shared.table_id in
    let board = c.args.self.now in
    let meaning = g.Y.System.meaning in
    let key = inside.table.shared.key in
    let kept = at_board meaning board inside.subject key table c.self.view_is c.self.invariant.kept in
    let written = c.requires.written in
    let exit = exit_again (meaning board.subject.system) board.subject key table (record { element = c.args.exit; run = c.args.run }) written.0 kept written.3 in
    let plan_is = c.plan-plan.ensures ∙ ap (λ b. b.subject.wiring.plan) c.self.view_is in
    let count = exit_count (meaning board.subject.system) board.subject.wiring c.plan-plan.result.now c.component_of-component.result.now c.args.exit c.args.exit kept.wired plan_is c.component_of-component.ensures.component exit in
    let word = (c.args.run + 1) * 1048576 + c.inner-waits.result in
    let word_is : word ≡ (c.args.run + 1) * 1048576 + inner (shape_of board.subject.wiring.plan) c.args.exit c.args.exit = ap (λ (n : ℕ). (c.args.run + 1) * 1048576 + n) (c.inner-waits.ensures ∙ count) in
    restart_asked meaning g.Y.Parted.part_of board.subject key table c.args.seat.now.table_id c.args.seat.now.id c.args.exit c.args.run word written.0 written.1 c.args.seat.now.me kept (c.requires.of_board ∙ sym (ap (λ b. b.table) c.self.view_is))
    c.requires.below c.requires.held c.requires.room written.2 written.3 word_is

pub returns-clause-told : goal.returns-clause-told
returns-clause-told g c =
    let inside = c.self.inside in
    let table = inside.table.shared.table_id in
    let board = c.args.self.now in
    let meaning = g.Y.System.meaning in
    let key = inside.table.shared.key in
    let kept = at_board meaning board inside.subject key table c.self.view_is c.self.invariant.kept in
    let written = c.requires.written in
    let exit = exit_again (meaning board.subject.system) board.subject key table (record { element = c.args.exit; run = c.args.run }) written.0 kept written.3 in
    let plan_is = c.plan-plan.ensures ∙ ap (λ b. b.subject.wiring.plan) c.self.view_is in
    let count = exit_count (meaning board.subject.system) board.subject.wiring c.plan-plan.result.now c.component_of-component.result.now c.args.exit c.args.exit kept.wired plan_is c.component_of-component.ensures.component exit in
    let word = (c.args.run + 1) * 1048576 + c.inner-waits.result in
    let word_is : word ≡ (c.args.run + 1) * 1048576 + inner (shape_of board.subject.wiring.plan) c.args.exit c.args.exit = ap (λ (n : ℕ). (c.args.run + 1) * 1048576 + n) (c.inner-waits.ensures ∙ count) in
    let told = subst (λ k. Restarted k.wiring.plan c.args.exit c.args.seat.now.me word c.store_told.new.seat.me) (c.self.invariant.kept.about ∙ ap (λ b. b.subject) c.self.view_is) c.store_told.ensures.2 in
    subst (λ (n : ℕ). Restarted board.subject.wiring.plan c.args.exit c.args.seat.now.me n c.store_told.new.seat.me) word_is told

pub returns-clause-resetting : goal.returns-clause-resetting
returns-clause-resetting g c =
    let inside = c.self.inside in
    let table = inside.table.shared.table_id in
    let board = c.args.self.now in
    let meaning = g.Y.System.meaning in
    let key = inside.table.shared.key in
    let kept = at_board meaning board inside.subject key table c.self.view_is c.self.invariant.kept in
    let written = c.requires.written in
    let exit = exit_again (meaning board.subject.system) board.subject key table (record { element = c.args.exit; run = c.args.run }) written.0 kept written.3 in
    let plan_is = c.plan-plan.ensures ∙ ap (λ b. b.subject.wiring.plan) c.self.view_is in
    is_resetting c.args.exit _ kept.wired exit (ap length c.members.ensures ∙ ap (λ k. length (members_of c.plan-plan.result.now k)) c.component_of-component.ensures.component ∙ ap (λ p. length (members_at p c.args.exit)) plan_is)
