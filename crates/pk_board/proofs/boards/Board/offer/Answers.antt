use Rattle.std.proofs.Common.{ℕ, ◌∙◌, ◌<◌, ap, sym, subst, refl}
use Rattle.pk_words.specs.Views.{HasHold, offer_view}
use Rattle.pk_board.proofs.Asking.{at_board, own_table, offer_asked}
use Rattle.pk_board.proofs.Telling.{idle_at}
use Rattle.pk_board.proofs.boards.Board.offer.Goals as goal

pub store_told-requires : goal.store_told-requires
store_told-requires g c =
    let inside = c.self.inside in
    let table = inside.table.shared.table_id in
    let seat = c.pass.inside.seat in
    let board = c.args.self.now in
    let meaning = g.Y.System.meaning in
    let kept = at_board meaning board inside.subject inside.table.shared.key table c.self.view_is c.self.invariant.kept in
    let e = c.element-element.result in
    let run = c.run.result in
    let hold = subst (λ v. HasHold v e run) (sym (ap (λ p. p.view) c.pass.view_is)) (subst (λ (j : ℕ). HasHold c.args.pass.now.view j run) (sym c.element-element.ensures) (subst (λ (r : ℕ). HasHold c.args.pass.now.view c.args.hold.element r) (sym c.run.ensures) c.requires.held)) in
    offer_asked meaning g.Y.Parted.part_of board inside.table.shared.key table seat.table_id seat.id e run seat.me kept
    (own_table board c.args.pass.now inside.subject table seat.table_id seat.me.0 c.self.view_is c.pass.view_is c.requires.of_board)
    (subst (λ (j : ℕ). j < board.subject.wiring.plan.elements) (sym c.element-element.ensures) c.requires.element) c.pass.invariant hold

pub invariant_of-pass : goal.invariant_of-pass
invariant_of-pass g c = idle_at (offer_view c.element-element.result c.pass.inside.seat.me.0) c.store_told.new.seat.me c.store_told.ensures.2 refl

pub returns-clause-view : goal.returns-clause-view
returns-clause-view g c =
    ap (λ m. m.0) c.store_told.ensures.2 ∙ ap (offer_view c.element-element.result) (ap (λ p. p.view) c.pass.view_is) ∙ ap (λ (j : ℕ). offer_view j c.args.pass.now.view) c.element-element.ensures
