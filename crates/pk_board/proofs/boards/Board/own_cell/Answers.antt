use Rattle.std.proofs.Common.{◌≡◌, ℕ, ◌+◌, ◌-◌, ◌<◌, sym, ap, subst, ◌∙◌, arith}
use Rattle.pk_words.specs.Views.{HasHold}
use Rattle.pk_board.proofs.Asking.{at_board, own_table}
use Rattle.pk_board.proofs.Item_asking.{OwnNoted, own_asked}
use Rattle.pk_board.proofs.Telling.{note_idle, is_found}
use Rattle.pk_board.proofs.boards.Board.own_cell.Goals as goal

pub load_told-requires : goal.load_told-requires
load_told-requires g c =
    let inside = c.self.inside in
    let table = inside.table.shared.table_id in
    let seat = c.pass.inside.seat in
    let board = c.args.self.now in
    let meaning = g.Y.System.meaning in
    let kept = at_board g.Y.System.meaning c.args.self.now c.self.inside.subject c.self.inside.table.shared.key c.self.inside.table.shared.table_id c.self.view_is c.self.invariant.kept in
    own_asked meaning g.Y.Parted.part_of board.subject inside.table.shared.key table seat.table_id seat.id c.element.result seat.me kept
    (own_table board c.args.pass.now inside.subject table seat.table_id seat.me.0 c.self.view_is c.pass.view_is c.requires.of_board)
    (subst (λ (j : ℕ). j < board.subject.wiring.plan.elements) (sym c.element.ensures) c.requires.item.element) c.pass.invariant

pub invariant_of-pass : goal.invariant_of-pass
invariant_of-pass g c = note_idle c.element.result c.load_told.result c.pass.inside.seat.me c.load_told.new.seat.me c.load_told.ensures.2.0

pub returns-clause-look : goal.returns-clause-look
returns-clause-look g c = is_found c.element.result c.args.hold.now.element c.load_told.result c.pass.inside.seat.me c.load_told.new.seat.me c.args.pass.now.view c.load_told.ensures.2.0 (ap (λ p. p.view) c.pass.view_is) c.element.ensures

pub returns-clause-last : goal.returns-clause-last
returns-clause-last g c =
    let inside = c.self.inside in
    let board = c.args.self.now in
    let meaning = g.Y.System.meaning in
    let seat = c.pass.inside.seat in
    let e = c.args.hold.now.element in
    let at : c.element.result + 2 - 2 ≡ e = omega (arith, c.element.ensures) in
    let told = subst (λ k. OwnNoted (meaning k.system) k.wiring (c.element.result + 2 - 2) seat.me c.load_told.result c.load_told.new.seat.me) (c.self.invariant.kept.about ∙ ap (λ b. b.subject) c.self.view_is) c.load_told.ensures.2 in
    let here = subst (λ (j : ℕ). OwnNoted (meaning board.subject.system) board.subject.wiring j seat.me c.load_told.result c.load_told.new.seat.me) at told in
    here.1 c.args.hold.now.run c.args.copies.now.cell (subst (λ v. HasHold v e c.args.hold.now.run) (sym (ap (λ p. p.view) c.pass.view_is)) c.requires.held) c.requires.item c.requires.cell
