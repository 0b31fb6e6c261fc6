use Rattle.std.proofs.Common.{◌∙◌, ap, sym, subst, rules}
use Rattle.pk_words.specs.Told.{Claimed}
use Rattle.pk_board.specs.Calls.{IsClaimed}
use Rattle.pk_board.proofs.Asking.{at_board, own_table, load_asked, claim_asked}
use Rattle.pk_board.proofs.Telling.{note_idle, seen_first, is_claimed}
use Rattle.pk_board.proofs.boards.Board.claim.Goals as goal

pub load_told-found-requires : goal.load_told-found-requires
load_told-found-requires g c =
    let inside = c.self.inside in
    let table = inside.table.shared.table_id in
    let seat = c.pass.inside.seat in
    let board = c.args.self.now in
    let meaning = g.Y.System.meaning in
    load_asked meaning g.Y.Parted.part_of board inside.table.shared.key table seat.table_id seat.id c.args.e seat.me (at_board meaning board inside.subject inside.table.shared.key table c.self.view_is c.self.invariant.kept)
    (own_table board c.args.pass.now inside.subject table seat.table_id seat.me.0 c.self.view_is c.pass.view_is c.requires.of_board) c.requires.element c.pass.invariant

pub invariant_of-pass : goal.invariant_of-pass
invariant_of-pass g c = note_idle c.args.e c.load_told-found.result c.pass.inside.seat.me c.load_told-found.new.seat.me c.load_told-found.ensures.2

pub returns-then-found-ne-OPEN-clause-seen : goal.returns-then-found-ne-OPEN-clause-seen
returns-then-found-ne-OPEN-clause-seen g c =
    seen_first c.args.e c.load_told-found.result c.pass.inside.seat.me c.load_told-found.new.seat.me c.args.pass.now.view c.load_told-found.ensures.2 (ap (λ p. p.view) c.pass.view_is) c.if-found-ne-OPEN.true

pub exchange_told-seen-requires : goal.exchange_told-seen-requires
exchange_told-seen-requires g c =
    let inside = c.self.inside in
    let table = inside.table.shared.table_id in
    let seat = c.pass.inside.seat in
    let next = c.load_told-found.new.seat in
    let board = c.args.self.now in
    let meaning = g.Y.System.meaning in
    claim_asked meaning g.Y.Parted.part_of board inside.table.shared.key table next.table_id next.id c.args.e c.load_told-found.result next.me (at_board meaning board inside.subject inside.table.shared.key table c.self.view_is c.self.invariant.kept)
    (c.load_told-found.ensures.0 ∙ own_table board c.args.pass.now inside.subject table seat.table_id seat.me.0 c.self.view_is c.pass.view_is c.requires.of_board) c.requires.element
    (note_idle c.args.e c.load_told-found.result seat.me next.me c.load_told-found.ensures.2) (search rules)

pub returns-clause-held : goal.returns-clause-held
returns-clause-held g c =
    let back = subst (λ k. Claimed (g.Y.System.meaning k.system) k.wiring c.args.e c.load_told-found.result c.load_told-found.new.seat.me c.exchange_told-seen.result c.exchange_told-seen.new.seat.me) (c.self.invariant.kept.about ∙ ap (λ b. b.subject) c.self.view_is) c.exchange_told-seen.ensures.2 in
    subst (λ h. IsClaimed (g.Y.System.meaning c.args.self.now.subject.system) c.args.self.now.subject.wiring c.args.e h c.args.pass.now.view c.exchange_told-seen.new.seat.me.0) (sym c.new.ensures)
    (is_claimed (g.Y.System.meaning c.args.self.now.subject.system) c.args.self.now.subject.wiring c.args.e c.load_told-found.result c.exchange_told-seen.result c.pass.inside.seat.me c.load_told-found.new.seat.me c.exchange_told-seen.new.seat.me
    c.args.pass.now.view c.load_told-found.ensures.2 (ap (λ p. p.view) c.pass.view_is) (search rules) back (search rules))
