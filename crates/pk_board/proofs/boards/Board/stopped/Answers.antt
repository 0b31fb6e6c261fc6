use Rattle.pk_board.proofs.Asking.{at_board, own_table}
use Rattle.pk_board.proofs.Stopping.{stopped_asked, word_asked}
use Rattle.pk_board.proofs.boards.Board.stopped.Goals as goal

pub load_told-word-requires : goal.load_told-word-requires
load_told-word-requires g c =
    let inside = c.self.inside in
    let table = inside.table.shared.table_id in
    let seat = c.pass.inside.seat in
    let board = c.args.self.now in
    let meaning = g.Y.System.meaning in
    stopped_asked meaning g.Y.Parted.part_of board.subject inside.table.shared.key table seat.table_id seat.id seat.me (at_board meaning board inside.subject inside.table.shared.key table c.self.view_is c.self.invariant.kept)
    (own_table board c.args.pass.now inside.subject table seat.table_id seat.me.0 c.self.view_is c.pass.view_is c.requires.of_board) c.pass.invariant

pub why_in-requires : goal.why_in-requires
why_in-requires g c =
    let inside = c.self.inside in
    word_asked g.Y.System.meaning inside.subject inside.table.shared.key inside.table.shared.table_id c.limit.result c.load_told-word.result c.pass.inside.seat.me c.load_told-word.new.seat.me c.self.invariant.kept c.load_told-word.ensures.2 c.limit.ensures
