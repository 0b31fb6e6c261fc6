use Rattle.std.proofs.Common.{ℕ, ◌<◌, box_value, sym, ap, subst, ◌∙◌, false}
use Rattle.std.specs.Arc.{arc_value}
use Rattle.pk_items.specs.Items.{EndsItem}
use Rattle.pk_words.specs.Kinds.{IsPartOf}
use Rattle.pk_words.specs.Views.{HasHold}
use Rattle.pk_board.specs.Calls.{IsRunCell}
use Rattle.pk_board.proofs.Asking.{at_board, own_table}
use Rattle.pk_board.proofs.Item_asking.{last_asked}
use Rattle.pk_board.proofs.Emptying_slots.{taken_more}
use Rattle.pk_board.proofs.boards.Board.done_last.Goals as goal

pub store_told-requires : goal.store_told-requires
store_told-requires g c =
    let inside = c.self.inside in
    let table = inside.table.shared.table_id in
    let seat = c.pass.inside.seat in
    let mid = c.put_outside.new.seat in
    let next = c.empty_item.new.seat in
    let board = c.args.self.now in
    let meaning = g.Y.System.meaning in
    let make = g.Y.Parted.part_of in
    let kept = at_board g.Y.System.meaning c.args.self.now c.self.inside.subject c.self.inside.table.shared.key c.self.inside.table.shared.table_id c.self.view_is c.self.invariant.kept in
    let e = c.element-element.result in
    let run = c.run.result in
    let b = meaning board.subject.system in
    let w = board.subject.wiring in
    let p = w.plan in
    let v = arc_value c.copies.inside.first in
    let part = box_value c.args.part in
    let is = c.element-element.ensures in
    let hold = subst (λ u. HasHold u e run) (sym (ap (λ q. q.view) c.pass.view_is)) (subst (λ (j : ℕ). HasHold c.args.pass.now.view j run) (sym is) (subst (λ (r : ℕ). HasHold c.args.pass.now.view c.args.hold.element r) (sym c.run.ensures) c.requires.held)) in
    let cell' = subst (λ d. IsRunCell b p c.args.hold false d) (sym (ap (λ q. q.cell) c.copies.view_is)) c.requires.cell in
    let cell = subst (λ (j : ℕ). IsRunCell b p (record { element = j; run = run }) false v) (sym is) (subst (λ (r : ℕ). IsRunCell b p (record { element = c.args.hold.element; run = r }) false v) (sym c.run.ensures) cell') in
    last_asked meaning make board.subject inside.table.shared.key table next.table_id next.id e run v part seat.me next.me kept
    (c.empty_item.ensures.same.0 ∙ c.put_outside.ensures.same.0 ∙ own_table board c.args.pass.now inside.subject table seat.table_id seat.me.0 c.self.view_is c.pass.view_is c.requires.of_board)
    c.requires.lean (subst (EndsItem p) (sym is) c.requires.item) hold (subst (λ (r : ℕ). r < w.limit) (sym c.run.ensures) c.requires.room)
    (taken_more seat.me mid.me next.me c.put_outside.ensures.taken c.empty_item.ensures.taken) c.empty_item.ensures.emptied
    (c.empty_item.ensures.left v (c.put_outside.ensures.left v part c.copies.invariant))
    (subst (λ (j : ℕ). IsPartOf b p (make board.subject.system) j part) (sym is) c.requires.part) cell
