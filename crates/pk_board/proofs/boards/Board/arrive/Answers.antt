use Rattle.std.proofs.Common.{◌≡◌, ℕ, ◌∙◌, ◌+◌, ◌<◌, List, length, get_or, ap, sym, subst, arith}
use Rattle.pk_plan.specs.Plans.{PlanView, successors_of}
use Rattle.pk_words.specs.Views.{HasSending}
use Rattle.pk_words.specs.Told.{Sent}
use Rattle.pk_board.proofs.Asking.{at_board, own_table, send_asked}
use Rattle.pk_board.proofs.Sending_told.{is_told}
use Rattle.pk_board.proofs.boards.Board.arrive.Goals as goal

pub decrement_told-found-requires : goal.decrement_told-found-requires
decrement_told-found-requires g c =
    let inside = c.self.inside in
    let table = inside.table.shared.table_id in
    let seat = c.pass.inside.seat in
    let board = c.args.self.now in
    let meaning = g.Y.System.meaning in
    let a = c.element-element.result in
    let i = c.sent-sent.result in
    let p = board.subject.wiring.plan in
    let plan : c.plan.result.now ≡ p = c.plan.ensures ∙ ap (λ b. b.subject.wiring.plan) c.self.view_is in
    let targets : c.successors-targets.result.now ≡ successors_of p a = c.successors-targets.ensures ∙ ap (λ (q : PlanView). successors_of q a) plan in
    let below : a < p.elements = subst (λ (j : ℕ). j < p.elements) (sym c.element-element.ensures) c.requires.sending.element in
    let in_range : i < length (successors_of p a) = omega (arith, c.requires.sending.some_left, c.sent-sent.ensures, ap (λ (j : ℕ). length (successors_of p j)) c.element-element.ensures) in
    let has = subst (λ v. HasSending v a i) (sym (ap (λ q. q.view) c.pass.view_is)) (subst (λ (j : ℕ). HasSending c.args.pass.now.view j i) (sym c.element-element.ensures) (subst (λ (k : ℕ). HasSending c.args.pass.now.view c.args.sending.element k) (sym c.sent-sent.ensures) c.requires.sends)) in
    send_asked meaning g.Y.Parted.part_of board inside.table.shared.key table seat.table_id seat.id a i (get_or c.successors-targets.result.now i 0) seat.me (at_board meaning board inside.subject inside.table.shared.key table c.self.view_is c.self.invariant.kept)
    (own_table board c.args.pass.now inside.subject table seat.table_id seat.me.0 c.self.view_is c.pass.view_is c.requires.of_board)
    below in_range (ap (λ (xs : List ℕ). get_or xs i 0) targets) c.pass.invariant has

pub returns-then-sent-targets-clause-arrived : goal.returns-then-sent-targets-clause-arrived
returns-then-sent-targets-clause-arrived g c =
    let a = c.element-element.result in
    let i = c.sent-sent.result in
    let w = c.args.self.now.subject.wiring in
    let p = w.plan in
    let back = subst (λ k. Sent (g.Y.System.meaning k.system) k.wiring a i c.pass.inside.seat.me c.decrement_told-found.result c.decrement_told-found.new.seat.me) (c.self.invariant.kept.about ∙ ap (λ b. b.subject) c.self.view_is) c.decrement_told-found.ensures.2 in
    let plan : c.plan.result.now ≡ p = c.plan.ensures ∙ ap (λ b. b.subject.wiring.plan) c.self.view_is in
    let targets : c.successors-targets.result.now ≡ successors_of p a = c.successors-targets.ensures ∙ ap (λ (q : PlanView). successors_of q a) plan in
    let long : length c.successors-targets.result.now ≡ length (successors_of p c.args.sending.element) = ap length targets ∙ ap (λ (j : ℕ). length (successors_of p j)) c.element-element.ensures in (
      c.new-rest.ensures ∙ (λ k. record { element = c.element-element.ensures k; sent = c.sent-sent.ensures k + 1 }),
      omega (arith, c.if-sent-targets.true, c.sent-sent.ensures, long),
      is_told (g.Y.System.meaning c.args.self.now.subject.system) w a i c.decrement_told-found.result (get_or c.successors-targets.result.now i 0) c.args.sending c.pass.inside.seat.me c.decrement_told-found.new.seat.me c.args.pass.now.view c.got_of-got.result
          back (sym c.element-element.ensures) (sym c.sent-sent.ensures) (ap (λ q. q.view) c.pass.view_is) (ap (λ (xs : List ℕ). get_or xs i 0) targets) c.got_of-got.ensures,
    )

pub returns-clause-arrived : goal.returns-clause-arrived
returns-clause-arrived g c =
    let a = c.element-element.result in
    let i = c.sent-sent.result in
    let w = c.args.self.now.subject.wiring in
    let p = w.plan in
    let back = subst (λ k. Sent (g.Y.System.meaning k.system) k.wiring a i c.pass.inside.seat.me c.decrement_told-found.result c.decrement_told-found.new.seat.me) (c.self.invariant.kept.about ∙ ap (λ b. b.subject) c.self.view_is) c.decrement_told-found.ensures.2 in
    let plan : c.plan.result.now ≡ p = c.plan.ensures ∙ ap (λ b. b.subject.wiring.plan) c.self.view_is in
    let targets : c.successors-targets.result.now ≡ successors_of p a = c.successors-targets.ensures ∙ ap (λ (q : PlanView). successors_of q a) plan in
    let long : length c.successors-targets.result.now ≡ length (successors_of p c.args.sending.element) = ap length targets ∙ ap (λ (j : ℕ). length (successors_of p j)) c.element-element.ensures in (
      omega (arith, c.if-sent-targets.false, c.sent-sent.ensures, long, c.requires.sending.some_left),
      is_told (g.Y.System.meaning c.args.self.now.subject.system) w a i c.decrement_told-found.result (get_or c.successors-targets.result.now i 0) c.args.sending c.pass.inside.seat.me c.decrement_told-found.new.seat.me c.args.pass.now.view c.got_of-got.result
          back (sym c.element-element.ensures) (sym c.sent-sent.ensures) (ap (λ q. q.view) c.pass.view_is) (ap (λ (xs : List ℕ). get_or xs i 0) targets) c.got_of-got.ensures,
    )
