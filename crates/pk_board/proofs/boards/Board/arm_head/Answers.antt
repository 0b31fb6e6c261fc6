use Rattle.std.proofs.Common.{◌∙◌, ap, sym, subst}
use Rattle.pk_words.specs.Told.{HeadArmed}
use Rattle.pk_board.proofs.Asking.{at_board}
use Rattle.pk_board.proofs.Restarting.{head_asked, same_word}
use Rattle.pk_board.proofs.boards.Board.arm_head.Goals as goal

pub arm_head_told-word-requires : goal.arm_head_told-word-requires
arm_head_told-word-requires g c =
    let inside = c.self.inside in
    let table = inside.table.shared.table_id in
    let board = c.args.self.now in
    let meaning = g.Y.System.meaning in
    let seat = c.args.seat.now in
    head_asked meaning g.Y.Parted.part_of board.subject inside.table.shared.key table seat.table_id seat.id c.args.exit c.args.head seat.me (at_board meaning board inside.subject inside.table.shared.key table c.self.view_is c.self.invariant.kept)
    (c.requires.of_board ∙ sym (ap (λ b. b.table) c.self.view_is)) c.requires.idle c.requires.resets c.requires.below c.requires.head

pub returns-clause-armed : goal.returns-clause-armed
returns-clause-armed g c =
    let meaning = g.Y.System.meaning in
    let word = c.arm_head_told-word.result in
    let told = c.arm_head_told-word.ensures.2 in
    let there = subst (λ k. HeadArmed (meaning k.system) k.wiring c.args.exit c.args.head c.args.seat.now.me word c.arm_head_told-word.new.seat.me) (c.self.invariant.kept.about ∙ ap (λ b. b.subject) c.self.view_is) told in
    subst (λ n. HeadArmed (meaning c.args.self.now.subject.system) c.args.self.now.subject.wiring c.args.exit c.args.head c.args.seat.now.me n c.arm_head_told-word.new.seat.me) (same_word word told.1) there
