use Rattle.std.proofs.Common.{◌≡◌, ℕ, ◌+◌, ◌<◌, List, ◌∷◌, sym, ap, ◌∙◌, subst, slice_get, Some}
use Rattle.std.specs.Arc.{arc_value}
use Rattle.pk_layout.specs.Layouts.{LayoutView, IsInputSlot, input_of, owner_of}
use Rattle.pk_words.specs.Views.{HasHold}
use Rattle.pk_words.specs.Reads.{IsReadAt}
use Rattle.pk_board.proofs.Asking.{at_board, own_table, input_asked, give_asked}
use Rattle.pk_board.proofs.Reading_told.{TookInput, if_ok, is_input}
use Rattle.pk_board.proofs.boards.Board.input.Goals as goal

pub input_told-requires : goal.input_told-requires
input_told-requires g c =
    let inside = c.self.inside in
    let table = inside.table.shared.table_id in
    let seat = c.pass.inside.seat in
    let board = c.args.self.now in
    let meaning = g.Y.System.meaning in
    let kept = at_board meaning board inside.subject inside.table.shared.key table c.self.view_is c.self.invariant.kept in
    let e = c.element-element.result in
    let run = c.run.result in
    let b = meaning board.subject.system in
    let l = board.subject.wiring.layout in
    let hold = subst (λ v. HasHold v e run) (sym (ap (λ p. p.view) c.pass.view_is)) (subst (λ (j : ℕ). HasHold c.args.pass.now.view j run) (sym c.element-element.ensures) (subst (λ (r : ℕ). HasHold c.args.pass.now.view c.args.hold.now.element r) (sym c.run.ensures) c.requires.held)) in
    let slot : c.input_slot-slot.result ≡ input_of l e c.args.place = c.input_slot-slot.ensures ∙ ap (λ (m : LayoutView). input_of m e c.args.place) (c.layout.ensures ∙ ap (λ d. d.subject.wiring.layout) c.self.view_is) in
    let here = kept.wired.laid_out.inputs c.args.hold.now.element c.args.place c.requires.element c.requires.place in
    let input = subst (λ (k : ℕ). IsInputSlot b l e c.args.place k) (sym slot) (subst (λ (j : ℕ). IsInputSlot b l j c.args.place (input_of l j c.args.place)) (sym c.element-element.ensures) here) in
    input_asked meaning g.Y.Parted.part_of board inside.table.shared.key table seat.table_id seat.id e run c.args.place c.input_slot-slot.result seat.me kept
    (own_table board c.args.pass.now inside.subject table seat.table_id seat.me.0 c.self.view_is c.pass.view_is c.requires.of_board)
    (subst (λ (j : ℕ). j < board.subject.wiring.plan.elements) (sym c.element-element.ensures) c.requires.element) hold input c.pass.invariant

pub read_slot-cell-requires-clause-has : goal.read_slot-cell-requires-clause-has
read_slot-cell-requires-clause-has g c κs within =
    let t = c.input_told.ensures.2 in
    (t.0, t.4.0, ap (λ m. m.1) t.2 ∙ ap (λ xs. (c.input_slot-slot.result, t.0) ∷ xs) c.pass.invariant.0, t.4.1)

pub give_told-requires : goal.give_told-requires
give_told-requires g c =
    let inside = c.self.inside in
    let table = inside.table.shared.table_id in
    let seat = c.pass.inside.seat in
    let next = c.read_slot-cell.new.seat in
    let board = c.args.self.now in
    let meaning = g.Y.System.meaning in
    let kept = at_board meaning board inside.subject inside.table.shared.key table c.self.view_is c.self.invariant.kept in
    let e = c.element-element.result in
    let run = c.run.result in
    let b = meaning board.subject.system in
    let l = board.subject.wiring.layout in
    let slot = c.input_slot-slot.result in
    let at : slot ≡ input_of l e c.args.place = c.input_slot-slot.ensures ∙ ap (λ (m : LayoutView). input_of m e c.args.place) (c.layout.ensures ∙ ap (λ d. d.subject.wiring.layout) c.self.view_is) in
    let here = kept.wired.laid_out.inputs c.args.hold.now.element c.args.place c.requires.element c.requires.place in
    let input = subst (λ (k : ℕ). IsInputSlot b l e c.args.place k) (sym at) (subst (λ (j : ℕ). IsInputSlot b l j c.args.place (input_of l j c.args.place)) (sym c.element-element.ensures) here) in
    let i = c.input_told.ensures in
    let r = c.read_slot-cell.ensures.same in
    let me = r.2 ∙ i.2.2 in
    let slots = ap (λ m. m.1) me ∙ ap (λ xs. (slot, i.2.0) ∷ xs) c.pass.invariant.0 in
    let out = ap (λ m. m.0.out) me ∙ ap (λ (ks : List ℕ). slot ∷ ks) c.pass.invariant.1 in
    let was = subst (λ v. HasHold v e run) (sym (ap (λ p. p.view) c.pass.view_is)) (subst (λ (j : ℕ). HasHold c.args.pass.now.view j run) (sym c.element-element.ensures) (subst (λ (k : ℕ). HasHold c.args.pass.now.view c.args.hold.now.element k) (sym c.run.ensures) c.requires.held)) in
    let hold : HasHold next.me.0 e run = subst (λ m. HasHold m.0 e run) (sym me) was in
    let read = subst (λ k. IsReadAt (meaning k.system) k.wiring.plan e (run + 1) c.args.place i.2.4.0) kept.about i.2.4.3 in
    give_asked meaning g.Y.Parted.part_of board inside.table.shared.key table next.table_id next.id e run c.args.place slot i.2.0 i.2.4.0 next.me kept
    (r.0 ∙ i.0 ∙ own_table board c.args.pass.now inside.subject table seat.table_id seat.me.0 c.self.view_is c.pass.view_is c.requires.of_board)
    (subst (λ (j : ℕ). j < board.subject.wiring.plan.elements) (sym c.element-element.ensures) c.requires.element) hold slots out input i.2.4.1 read

pub returns-clause-input : goal.returns-clause-input
returns-clause-input g c =
    let board = c.args.self.now in
    let inside = c.self.inside in
    let b = g.Y.System.meaning board.subject.system in
    let w = board.subject.wiring in
    let slot = c.input_slot-slot.result in
    let u = owner_of w.layout slot in
    let hold = c.args.hold.now in
    let kept = at_board g.Y.System.meaning board inside.subject inside.table.shared.key inside.table.shared.table_id c.self.view_is c.self.invariant.kept in
    let seat = c.pass.inside.seat in
    let x = c.input_told.ensures.2.0 in
    let seen = c.input_told.ensures.2.1 in
    let there = c.input_told.ensures.2 in
    let cell = there.4.0 in
    let told' = subst (λ k. TookInput (g.Y.System.meaning k.system) k.wiring c.element-element.result c.run.result c.args.place (owner_of k.wiring.layout slot) slot x cell seen seat.me c.input_told.new.seat.me) kept.about (there.2, there.3, there.4.2, there.4.3) in
    let told = subst (λ (j : ℕ). TookInput b w j hold.run c.args.place u slot x cell seen seat.me c.input_told.new.seat.me) c.element-element.ensures
    (subst (λ (r : ℕ). TookInput b w c.element-element.result r c.args.place u slot x cell seen seat.me c.input_told.new.seat.me) c.run.ensures told') in
    let at : slot ≡ input_of w.layout hold.element c.args.place = c.input_slot-slot.ensures ∙ ap (λ (m : LayoutView). input_of m c.element-element.result c.args.place) (c.layout.ensures ∙ ap (λ d. d.subject.wiring.layout) c.self.view_is) ∙ ap (λ (j : ℕ). input_of w.layout j c.args.place) c.element-element.ensures in
    let input : slice_get (b.reads hold.element) c.args.place ≡ Some u = (kept.wired.laid_out.inputs hold.element c.args.place c.requires.element c.requires.place).1 ∙ ap (λ (k : ℕ). Some (owner_of w.layout k)) (sym at) in
    let slots = ap (λ m. m.1) c.input_told.ensures.2.2 ∙ ap (λ xs. (slot, c.input_told.ensures.2.0) ∷ xs) c.pass.invariant.0 in
    if_ok _ _ c.read_slot-cell.result (λ a h. is_input b w hold c.args.place u slot c.give_told.result x cell seen seat.me c.input_told.new.seat.me c.read_slot-cell.new.seat.me c.give_told.new.seat.me c.args.pass.now.view (arc_value a)
    told c.read_slot-cell.ensures.same.2 c.give_told.ensures.2 (ap (λ p. p.view) c.pass.view_is) input (h x cell slots there.4.1)) c.read_slot-cell.ensures.value
