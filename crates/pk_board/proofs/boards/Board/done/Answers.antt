use Rattle.std.proofs.Common.{◌≡◌, ℕ, ◌∙◌, ◌<◌, length, ap, sym, subst, refl, false}
use Rattle.std.specs.Arc.{arc_value}
use Rattle.pk_plan.specs.Plans.{PlanView, successors_of}
use Rattle.pk_items.specs.Items.{EndsItem}
use Rattle.pk_words.specs.Views.{HasHold}
use Rattle.pk_board.specs.Calls.{IsRunCell}
use Rattle.pk_board.proofs.Asking.{at_board, own_table, done_asked}
use Rattle.pk_board.proofs.Ending_plan.{is_end, has_none, empty_is, some_is}
use Rattle.pk_board.proofs.Writing_slots.{copies_are}
use Rattle.pk_board.proofs.boards.Board.done.Goals as goal

pub put_all-requires-clause-same : goal.put_all-requires-clause-same
put_all-requires-clause-same g c κs within = copies_are arc_value c.copies.inside.further.items (arc_value c.copies.inside.first) c.copies.invariant

pub store_told-requires : goal.store_told-requires
store_told-requires g c =
    let inside = c.self.inside in
    let table = inside.table.shared.table_id in
    let seat = c.pass.inside.seat in
    let next = c.put_all.new.seat in
    let board = c.args.self.now in
    let meaning = g.Y.System.meaning in
    let kept = at_board meaning board inside.subject inside.table.shared.key table c.self.view_is c.self.invariant.kept in
    let e = c.element-element.result in
    let run = c.run.result in
    let b = meaning board.subject.system in
    let p = board.subject.wiring.plan in
    let v = arc_value c.copies.inside.first in
    let hold = subst (λ u. HasHold u e run) (sym (ap (λ q. q.view) c.pass.view_is)) (subst (λ (j : ℕ). HasHold c.args.pass.now.view j run) (sym c.element-element.ensures) (subst (λ (r : ℕ). HasHold c.args.pass.now.view c.args.hold.element r) (sym c.run.ensures) c.requires.held)) in
    let cell' = subst (λ d. IsRunCell b p c.args.hold false d) (sym (ap (λ q. q.cell) c.copies.view_is)) c.requires.cell in
    let cell = subst (λ (j : ℕ). IsRunCell b p (record { element = j; run = run }) false v) (sym c.element-element.ensures) (subst (λ (r : ℕ). IsRunCell b p (record { element = c.args.hold.element; run = r }) false v) (sym c.run.ensures) cell') in
    done_asked meaning g.Y.Parted.part_of board inside.table.shared.key table next.table_id next.id e run v seat.me.0 next.me kept
    (c.put_all.ensures.same.0 ∙ own_table board c.args.pass.now inside.subject table seat.table_id seat.me.0 c.self.view_is c.pass.view_is c.requires.of_board)
    (subst (λ (j : ℕ). j < p.elements) (sym c.element-element.ensures) c.requires.element) hold (subst (λ (r : ℕ). r < board.subject.wiring.limit) (sym c.run.ensures) c.requires.room) (λ lean item. c.requires.going lean (subst (EndsItem p) c.element-element.ensures item)) c.put_all.ensures.written cell

pub returns-then-is_empty-clause-end : goal.returns-then-is_empty-clause-end
returns-then-is_empty-clause-end g c =
    let board = c.args.self.now in
    let inside = c.self.inside in
    let p = board.subject.wiring.plan in
    let kept = at_board g.Y.System.meaning board inside.subject inside.table.shared.key inside.table.shared.table_id c.self.view_is c.self.invariant.kept in
    let plan : c.plan.result.now ≡ p = c.plan.ensures ∙ ap (λ b. b.subject.wiring.plan) c.self.view_is in
    let targets : c.successors.result.now ≡ successors_of p c.args.hold.element = c.successors.ensures ∙ ap (λ (q : PlanView). successors_of q c.element-element.result) plan ∙ ap (successors_of p) c.element-element.ensures in
    (λ _. is_end p c.args.hold.element kept.wired.axioms c.requires.element (sym (ap length targets) ∙ empty_is (length c.successors.result.now) c.if-is_empty.ensures), λ _. refl)

pub returns-clause-end : goal.returns-clause-end
returns-clause-end g c =
    let board = c.args.self.now in
    let inside = c.self.inside in
    let p = board.subject.wiring.plan in
    let kept = at_board g.Y.System.meaning board inside.subject inside.table.shared.key inside.table.shared.table_id c.self.view_is c.self.invariant.kept in
    let plan : c.plan.result.now ≡ p = c.plan.ensures ∙ ap (λ b. b.subject.wiring.plan) c.self.view_is in
    let targets : c.successors.result.now ≡ successors_of p c.args.hold.element = c.successors.ensures ∙ ap (λ (q : PlanView). successors_of q c.element-element.result) plan ∙ ap (successors_of p) c.element-element.ensures in
    (λ h. absurd (cc), λ e. absurd (some_is (length c.successors.result.now) c.if-is_empty.ensures (ap length targets ∙ ap (λ (j : ℕ). length (successors_of p j)) e ∙ has_none p kept.wired.axioms)))
