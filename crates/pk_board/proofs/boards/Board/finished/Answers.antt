use Rattle.std.proofs.Common.{◌∙◌, ap, subst, rules, ◌-◌}
use Rattle.pk_plan.specs.Plans.{PlanView, end_of}
use Rattle.pk_words.specs.Told.{Ended}
use Rattle.pk_board.proofs.Asking.{at_board, own_table, end_asked, last_is}
use Rattle.pk_board.proofs.Telling.{is_end, is_no_end, end_idle}
use Rattle.pk_board.proofs.boards.Board.finished.Goals as goal

pub load_told-found-requires : goal.load_told-found-requires
load_told-found-requires g c =
    let inside = c.self.inside in
    let table = inside.table.shared.table_id in
    let seat = c.pass.inside.seat in
    let board = c.args.self.now in
    let meaning = g.Y.System.meaning in
    let kept = at_board meaning board inside.subject inside.table.shared.key table c.self.view_is c.self.invariant.kept in
    end_asked meaning g.Y.Parted.part_of board inside.table.shared.key table seat.table_id seat.id (c.elements-last.result - 1) seat.me kept
    (own_table board c.args.pass.now inside.subject table seat.table_id seat.me.0 c.self.view_is c.pass.view_is c.requires.of_board)
    (last_is kept (c.elements-last.ensures ∙ ap (λ (p : PlanView). p.elements) (c.plan.ensures ∙ ap (λ b. b.subject.wiring.plan) c.self.view_is))) c.pass.invariant

pub invariant_of-pass : goal.invariant_of-pass
invariant_of-pass g c = end_idle (end_of c.self.inside.table.shared.key.wiring.plan) c.load_told-found.result c.pass.inside.seat.me c.load_told-found.new.seat.me c.load_told-found.ensures.2

pub invariant_of-pass-2 : goal.invariant_of-pass-2
invariant_of-pass-2 g c = end_idle (end_of c.self.inside.table.shared.key.wiring.plan) c.load_told-found.result c.pass.inside.seat.me c.load_told-found.new.seat.me c.load_told-found.ensures.2

pub returns-then-found-ne-DONE-clause-seen : goal.returns-then-found-ne-DONE-clause-seen
returns-then-found-ne-DONE-clause-seen g c =
    let back = subst (λ k. Ended (end_of k.wiring.plan) c.pass.inside.seat.me c.load_told-found.result c.load_told-found.new.seat.me) (c.self.invariant.kept.about ∙ ap (λ b. b.subject) c.self.view_is) c.load_told-found.ensures.2 in
    is_no_end c.args.self.now.subject.wiring.plan c.load_told-found.result c.pass.inside.seat.me c.load_told-found.new.seat.me c.args.pass.now.view back (ap (λ p. p.view) c.pass.view_is) c.if-found-ne-DONE.true

pub returns-clause-finished : goal.returns-clause-finished
returns-clause-finished g c =
    let back = subst (λ k. Ended (end_of k.wiring.plan) c.pass.inside.seat.me c.load_told-found.result c.load_told-found.new.seat.me) (c.self.invariant.kept.about ∙ ap (λ b. b.subject) c.self.view_is) c.load_told-found.ensures.2 in
    is_end c.args.self.now.subject.wiring.plan c.load_told-found.result c.pass.inside.seat.me c.load_told-found.new.seat.me c.args.pass.now.view back (ap (λ p. p.view) c.pass.view_is) (search rules)
