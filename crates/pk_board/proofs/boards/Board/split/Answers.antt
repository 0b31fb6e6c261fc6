use Rattle.pk_board.proofs.Asking.{at_board, own_table, split_asked}
use Rattle.pk_board.proofs.boards.Board.split.Goals as goal

pub split_seat-requires : goal.split_seat-requires
split_seat-requires g c =
    let inside = c.self.inside in
    let table = inside.table.shared.table_id in
    let seat = c.pass.inside.seat in
    let board = c.args.self.now in
    let meaning = g.Y.System.meaning in
    split_asked meaning g.Y.Parted.part_of board inside.table.shared.key table seat.table_id seat.id seat.me.0 (at_board meaning board inside.subject inside.table.shared.key table c.self.view_is c.self.invariant.kept)
    (own_table board c.args.pass.now inside.subject table seat.table_id seat.me.0 c.self.view_is c.pass.view_is c.requires.of_board)
