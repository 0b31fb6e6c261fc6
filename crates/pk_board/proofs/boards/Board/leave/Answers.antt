use Rattle.std.proofs.Common.{◌∷◌, sym, ap, ◌∙◌}
use Rattle.atomic_table.specs.Table.{rest}
use Rattle.pk_board.proofs.Asking.{at_board}
use Rattle.pk_board.proofs.Item_asking.{item_take_asked}
use Rattle.pk_board.proofs.boards.Board.leave.Goals as goal

pub take_told-requires : goal.take_told-requires
take_told-requires g c =
    let inside = c.self.inside in
    let table = inside.table.shared.table_id in
    let board = c.args.self.now in
    let meaning = g.Y.System.meaning in
    let kept = at_board meaning board inside.subject inside.table.shared.key table c.self.view_is c.self.invariant.kept in
    item_take_asked meaning g.Y.Parted.part_of board.subject inside.table.shared.key table c.args.seat.now.table_id c.args.seat.now.id c.args.last c.args.slot c.args.seat.now.me kept (c.requires.of_board ∙ sym (ap (λ b. b.table) c.self.view_is)) c.requires.item c.requires.held c.requires.slot c.requires.reader c.requires.at_home

pub exchange-requires : goal.exchange-requires
exchange-requires g c =
    let t = c.take_told.ensures in
    let m = ap (λ n. n.1) t.2.1 in
    (t.0 ∙ c.requires.of_board ∙ sym (ap (λ b. b.table) c.self.view_is), (t.2.0, m ∙ ap (λ xs. (c.args.slot, t.2.0) ∷ xs) (sym (ap rest m))))

pub returns-clause-left : goal.returns-clause-left
returns-clause-left g c = c.exchange.ensures.3 ∙ ap (λ n. (n.0, (c.args.slot, c.args.left) ∷ rest n.1)) c.take_told.ensures.2.1
