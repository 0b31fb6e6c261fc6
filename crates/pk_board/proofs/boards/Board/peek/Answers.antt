use Rattle.std.proofs.Common.{◌≡◌, ℕ, ◌<◌, List, ◌∷◌, sym, ap, subst, ◌∙◌}
use Rattle.std.specs.Arc.{arc_value}
use Rattle.pk_layout.specs.Layouts.{LayoutView, first_of}
use Rattle.pk_words.specs.Views.{HasHold}
use Rattle.pk_lean_words.specs.Members.{IsLastCell}
use Rattle.pk_board.specs.Calls.{IsLastRun}
use Rattle.pk_board.proofs.Asking.{at_board, own_table}
use Rattle.pk_board.proofs.Item_asking.{member_asked, member_given}
use Rattle.pk_board.proofs.Item_places.{member_of}
use Rattle.pk_board.proofs.Reading_told.{if_ok, is_peek}
use Rattle.pk_board.proofs.boards.Board.peek.Goals as goal

pub input_told-requires : goal.input_told-requires
input_told-requires g c =
    let inside = c.self.inside in
    let table = inside.table.shared.table_id in
    let seat = c.pass.inside.seat in
    let board = c.args.self.now in
    let meaning = g.Y.System.meaning in
    let kept = at_board g.Y.System.meaning c.args.self.now c.self.inside.subject c.self.inside.table.shared.key c.self.inside.table.shared.table_id c.self.view_is c.self.invariant.kept in
    let w = board.subject.wiring in
    let b = meaning board.subject.system in
    let x = c.element.result in
    let is = c.element.ensures in
    let run = c.run.result in
    let hold = subst (λ v. HasHold v x run) (sym (ap (λ p. p.view) c.pass.view_is)) (subst (λ (j : ℕ). HasHold c.args.pass.now.view j run) (sym is) (subst (λ (r : ℕ). HasHold c.args.pass.now.view c.args.hold.now.element r) (sym c.run.ensures) c.requires.held)) in
    let last = subst (λ (j : ℕ). IsLastRun b w.plan (record { element = j; run = run })) (sym is) (subst (λ (r : ℕ). IsLastRun b w.plan (record { element = c.args.hold.now.element; run = r })) (sym c.run.ensures) c.requires.last) in
    let m = member_of w.plan c.args.hold.now.element c.args.member kept.wired.axioms c.requires.item c.requires.member in
    let slot = c.first_slot-slot.result in
    let at : slot ≡ first_of w.layout c.args.member = c.first_slot-slot.ensures ∙ ap (λ (l : LayoutView). first_of l c.args.member) (c.layout.ensures ∙ ap (λ d. d.subject.wiring.layout) c.self.view_is) in
    let below = subst (λ (j : ℕ). j < w.plan.elements) (sym is) c.requires.item.element in
    member_asked meaning g.Y.Parted.part_of board.subject inside.table.shared.key table seat.table_id seat.id x run c.args.member slot seat.me kept
    (own_table board c.args.pass.now inside.subject table seat.table_id seat.me.0 c.self.view_is c.pass.view_is c.requires.of_board)
    below hold last m.0 (m.1 ∙ sym is) (λ q. m.2 (q ∙ is)) at c.pass.invariant

pub read_slot-cell-requires-clause-has : goal.read_slot-cell-requires-clause-has
read_slot-cell-requires-clause-has g c κs within =
    let t = c.input_told.ensures.2 in
    (t.0, t.4.0, ap (λ m. m.1) t.2 ∙ ap (λ xs. (c.first_slot-slot.result, t.0) ∷ xs) c.pass.invariant.0, t.4.1)

pub give_told-requires : goal.give_told-requires
give_told-requires g c =
    let inside = c.self.inside in
    let table = inside.table.shared.table_id in
    let seat = c.pass.inside.seat in
    let board = c.args.self.now in
    let meaning = g.Y.System.meaning in
    let kept = at_board g.Y.System.meaning c.args.self.now c.self.inside.subject c.self.inside.table.shared.key c.self.inside.table.shared.table_id c.self.view_is c.self.invariant.kept in
    let w = board.subject.wiring in
    let b = meaning board.subject.system in
    let x = c.element.result in
    let is = c.element.ensures in
    let run = c.run.result in
    let hold = subst (λ v. HasHold v x run) (sym (ap (λ p. p.view) c.pass.view_is)) (subst (λ (j : ℕ). HasHold c.args.pass.now.view j run) (sym is) (subst (λ (r : ℕ). HasHold c.args.pass.now.view c.args.hold.now.element r) (sym c.run.ensures) c.requires.held)) in
    let last = subst (λ (j : ℕ). IsLastRun b w.plan (record { element = j; run = run })) (sym is) (subst (λ (r : ℕ). IsLastRun b w.plan (record { element = c.args.hold.now.element; run = r })) (sym c.run.ensures) c.requires.last) in
    let m = member_of w.plan c.args.hold.now.element c.args.member kept.wired.axioms c.requires.item c.requires.member in
    let slot = c.first_slot-slot.result in
    let at : slot ≡ first_of w.layout c.args.member = c.first_slot-slot.ensures ∙ ap (λ (l : LayoutView). first_of l c.args.member) (c.layout.ensures ∙ ap (λ d. d.subject.wiring.layout) c.self.view_is) in
    let below = subst (λ (j : ℕ). j < w.plan.elements) (sym is) c.requires.item.element in
    let i = c.input_told.ensures in
    let r = c.read_slot-cell.ensures.same in
    let me = r.2 ∙ i.2.2 in
    let next = c.read_slot-cell.new.seat in
    let slots = ap (λ m. m.1) me ∙ ap (λ xs. (slot, i.2.0) ∷ xs) c.pass.invariant.0 in
    let out = ap (λ m. m.0.out) me ∙ ap (λ (ks : List ℕ). slot ∷ ks) c.pass.invariant.1 in
    let hold' : HasHold next.me.0 x run = subst (λ n. HasHold n.0 x run) (sym me) hold in
    let cell = subst (λ k. IsLastCell (meaning k.system) k.wiring.plan c.args.member i.2.4.0) kept.about i.2.4.3 in
    member_given meaning g.Y.Parted.part_of board.subject inside.table.shared.key table next.table_id next.id x run c.args.member slot i.2.0 i.2.4.0 next.me kept
    (r.0 ∙ i.0 ∙ own_table board c.args.pass.now inside.subject table seat.table_id seat.me.0 c.self.view_is c.pass.view_is c.requires.of_board)
    below hold' last m.0 (m.1 ∙ sym is) (λ q. m.2 (q ∙ is)) at slots out i.2.4.1 cell

pub returns-clause-peek : goal.returns-clause-peek
returns-clause-peek g c =
    let inside = c.self.inside in
    let table = inside.table.shared.table_id in
    let seat = c.pass.inside.seat in
    let board = c.args.self.now in
    let meaning = g.Y.System.meaning in
    let kept = at_board g.Y.System.meaning c.args.self.now c.self.inside.subject c.self.inside.table.shared.key c.self.inside.table.shared.table_id c.self.view_is c.self.invariant.kept in
    let w = board.subject.wiring in
    let b = meaning board.subject.system in
    let x = c.element.result in
    let is = c.element.ensures in
    let run = c.run.result in
    let hold = subst (λ v. HasHold v x run) (sym (ap (λ p. p.view) c.pass.view_is)) (subst (λ (j : ℕ). HasHold c.args.pass.now.view j run) (sym is) (subst (λ (r : ℕ). HasHold c.args.pass.now.view c.args.hold.now.element r) (sym c.run.ensures) c.requires.held)) in
    let last = subst (λ (j : ℕ). IsLastRun b w.plan (record { element = j; run = run })) (sym is) (subst (λ (r : ℕ). IsLastRun b w.plan (record { element = c.args.hold.now.element; run = r })) (sym c.run.ensures) c.requires.last) in
    let m = member_of w.plan c.args.hold.now.element c.args.member kept.wired.axioms c.requires.item c.requires.member in
    let slot = c.first_slot-slot.result in
    let at : slot ≡ first_of w.layout c.args.member = c.first_slot-slot.ensures ∙ ap (λ (l : LayoutView). first_of l c.args.member) (c.layout.ensures ∙ ap (λ d. d.subject.wiring.layout) c.self.view_is) in
    let below = subst (λ (j : ℕ). j < w.plan.elements) (sym is) c.requires.item.element in
    let t = c.input_told.ensures.2 in
    let slots = ap (λ n. n.1) t.2 ∙ ap (λ xs. (slot, t.0) ∷ xs) c.pass.invariant.0 in
    let cell = subst (λ k. IsLastCell (meaning k.system) k.wiring.plan c.args.member t.4.0) kept.about t.4.3 in
    if_ok _ _ c.read_slot-cell.result (λ a h. is_peek b w c.args.member slot c.give_told.result t.0 t.4.0 t.1 seat.me c.input_told.new.seat.me c.read_slot-cell.new.seat.me c.give_told.new.seat.me c.args.pass.now.view (arc_value a)
    t.2 t.3 cell c.read_slot-cell.ensures.same.2 c.give_told.ensures.2 (ap (λ p. p.view) c.pass.view_is) (h t.0 t.4.0 slots t.4.1)) c.read_slot-cell.ensures.value
