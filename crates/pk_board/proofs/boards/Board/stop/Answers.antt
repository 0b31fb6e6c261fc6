use Rattle.std.proofs.Common.{◌≡◌, ◌∙◌, ap, sym, subst, Some}
use Rattle.pk_words.specs.Board.{why_of, NamesLimit}
use Rattle.pk_board.proofs.Asking.{at_board, own_table}
use Rattle.pk_board.proofs.Stopping.{names_limit, stop_asked, stop_idle, is_stop}
use Rattle.pk_board.proofs.boards.Board.stop.Goals as goal

pub stop_word-word-requires : goal.stop_word-word-requires
stop_word-word-requires g c =
    let board = c.args.self.now in
    let same : board.subject.wiring.limit ≡ c.limit.result = ap (λ b. b.subject.wiring.limit) (sym c.self.view_is) ∙ sym c.limit.ensures in
    subst (λ n. NamesLimit n c.args.why) same (names_limit (g.Y.System.meaning board.subject.system) board.subject.wiring c.args.why c.requires.cause)

pub store_told-requires : goal.store_told-requires
store_told-requires g c =
    let inside = c.self.inside in
    let table = inside.table.shared.table_id in
    let seat = c.pass.inside.seat in
    let board = c.args.self.now in
    let meaning = g.Y.System.meaning in
    let same : c.limit.result ≡ board.subject.wiring.limit = c.limit.ensures ∙ ap (λ b. b.subject.wiring.limit) c.self.view_is in
    stop_asked meaning g.Y.Parted.part_of board.subject inside.table.shared.key table seat.table_id seat.id c.stop_word-word.result c.args.why seat.me (at_board meaning board inside.subject inside.table.shared.key table c.self.view_is c.self.invariant.kept)
    (own_table board c.args.pass.now inside.subject table seat.table_id seat.me.0 c.self.view_is c.pass.view_is c.requires.of_board) c.pass.invariant
    (subst (λ n. why_of n c.stop_word-word.result ≡ Some c.args.why) same c.stop_word-word.ensures) c.requires.cause

pub invariant_of-pass : goal.invariant_of-pass
invariant_of-pass g c = stop_idle c.stop_word-word.result c.pass.inside.seat.me c.store_told.new.seat.me c.store_told.ensures.2

pub returns-clause-stop : goal.returns-clause-stop
returns-clause-stop g c =
    let board = c.args.self.now in
    let same : c.limit.result ≡ board.subject.wiring.limit = c.limit.ensures ∙ ap (λ b. b.subject.wiring.limit) c.self.view_is in
    is_stop board.subject.wiring c.stop_word-word.result c.args.why c.pass.inside.seat.me c.store_told.new.seat.me c.args.pass.now.view c.store_told.ensures.2 (ap (λ p. p.view) c.pass.view_is)
    (subst (λ n. why_of n c.stop_word-word.result ≡ Some c.args.why) same c.stop_word-word.ensures)
