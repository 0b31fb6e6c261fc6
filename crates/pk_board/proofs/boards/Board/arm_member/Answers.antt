use Rattle.std.proofs.Common.{◌∙◌, ap, sym}
use Rattle.pk_board.proofs.Asking.{at_board}
use Rattle.pk_board.proofs.Restarting.{arm_asked}
use Rattle.pk_board.proofs.boards.Board.arm_member.Goals as goal

pub arm_told-requires : goal.arm_told-requires
arm_told-requires g c =
    let inside = c.self.inside in
    let table = inside.table.shared.table_id in
    let board = c.args.self.now in
    let meaning = g.Y.System.meaning in
    let seat = c.args.seat.now in
    arm_asked meaning g.Y.Parted.part_of board.subject inside.table.shared.key table seat.table_id seat.id c.args.exit c.args.left c.args.member c.args.amount seat.me (at_board meaning board inside.subject inside.table.shared.key table c.self.view_is c.self.invariant.kept)
    (c.requires.of_board ∙ sym (ap (λ b. b.table) c.self.view_is)) c.requires.idle c.requires.resets c.requires.some_left c.requires.below c.requires.member c.requires.amount
