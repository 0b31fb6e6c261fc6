use Rattle.std.proofs.Common.{◌≡◌, ℕ, ◌<◌, box_value, refl, sym, ap, subst, ◌∙◌, inl, inr}
use Rattle.pk_plan.specs.Shape.{has}
use Rattle.pk_items.specs.Items.{top_of}
use Rattle.pk_layout.specs.Layouts.{LayoutView, slots_of, first_of, reader_of}
use Rattle.pk_words.specs.declared.slot.Slot.TheVariants.{Part}
use Rattle.pk_board.proofs.Asking.{at_board}
use Rattle.pk_board.proofs.Reading_slots.{first_in, first_reader}
use Rattle.pk_board.proofs.Emptying_slots.{left_one, last_home, emptied_last}
use Rattle.pk_board.proofs.boards.Board.empty_item.Goals as goal

pub leave-requires-clause-slot : goal.leave-requires-clause-slot
leave-requires-clause-slot g c κs within =
    let w = c.args.self.now.subject.wiring in
    let last = c.args.last in
    let kept = at_board g.Y.System.meaning c.args.self.now c.self.inside.subject c.self.inside.table.shared.key c.self.inside.table.shared.table_id c.self.view_is c.self.invariant.kept in
    let first : c.first_slot-first.result ≡ first_of w.layout last = c.first_slot-first.ensures ∙ ap (λ (l : LayoutView). first_of l last) (c.layout.ensures ∙ ap (λ b. b.subject.wiring.layout) c.self.view_is) in
    subst (λ (k : ℕ). k < slots_of w.layout) (sym first) (first_in kept.wired.laid_out last c.requires.item.element).0

pub leave-requires-clause-reader : goal.leave-requires-clause-reader
leave-requires-clause-reader g c κs within =
    let w = c.args.self.now.subject.wiring in
    let last = c.args.last in
    let kept = at_board g.Y.System.meaning c.args.self.now c.self.inside.subject c.self.inside.table.shared.key c.self.inside.table.shared.table_id c.self.view_is c.self.invariant.kept in
    let first : c.first_slot-first.result ≡ first_of w.layout last = c.first_slot-first.ensures ∙ ap (λ (l : LayoutView). first_of l last) (c.layout.ensures ∙ ap (λ b. b.subject.wiring.layout) c.self.view_is) in
    ap (λ (k : ℕ). top_of w.plan (reader_of w.layout k)) first ∙ ap (top_of w.plan) (first_reader kept.wired.laid_out last c.requires.item.element) ∙ c.requires.item.outermost

pub leave-requires-clause-at_home : goal.leave-requires-clause-at_home
leave-requires-clause-at_home g c κs within =
    let w = c.args.self.now.subject.wiring in
    let last = c.args.last in
    let kept = at_board g.Y.System.meaning c.args.self.now c.self.inside.subject c.self.inside.table.shared.key c.self.inside.table.shared.table_id c.self.view_is c.self.invariant.kept in
    let first : c.first_slot-first.result ≡ first_of w.layout last = c.first_slot-first.ensures ∙ ap (λ (l : LayoutView). first_of l last) (c.layout.ensures ∙ ap (λ b. b.subject.wiring.layout) c.self.view_is) in
    ap (has c.first_slot-first.result) c.empty_inputs.ensures.taken.out ∙ last_home kept.wired last c.item_start-start.result c.first_slot-first.result c.empty_members.new.seat.me c.empty_inputs.new.seat.me c.requires.item c.empty_members.ensures.emptying c.empty_inputs.ensures.inputs first

pub returns-clause-left : goal.returns-clause-left
returns-clause-left g c = λ cell h.
    let w = c.args.self.now.subject.wiring in
    let last = c.args.last in
    let kept = at_board g.Y.System.meaning c.args.self.now c.self.inside.subject c.self.inside.table.shared.key c.self.inside.table.shared.table_id c.self.view_is c.self.invariant.kept in
    let first : c.first_slot-first.result ≡ first_of w.layout last = c.first_slot-first.ensures ∙ ap (λ (l : LayoutView). first_of l last) (c.layout.ensures ∙ ap (λ b. b.subject.wiring.layout) c.self.view_is) in
    let part = box_value c.args.part in
    left_one w last c.first_slot-first.result cell part c.empty_inputs.new.seat.me c.leave.new.seat.me (Part c.args.part) c.leave.ensures.left (inr (inl (first, refl)))
    (c.empty_inputs.ensures.left cell part (c.empty_members.ensures.left cell part h))

pub returns-clause-emptied : goal.returns-clause-emptied
returns-clause-emptied g c =
    let w = c.args.self.now.subject.wiring in
    let last = c.args.last in
    let kept = at_board g.Y.System.meaning c.args.self.now c.self.inside.subject c.self.inside.table.shared.key c.self.inside.table.shared.table_id c.self.view_is c.self.invariant.kept in
    let first : c.first_slot-first.result ≡ first_of w.layout last = c.first_slot-first.ensures ∙ ap (λ (l : LayoutView). first_of l last) (c.layout.ensures ∙ ap (λ b. b.subject.wiring.layout) c.self.view_is) in
    emptied_last kept.wired last c.item_start-start.result c.first_slot-first.result c.empty_members.new.seat.me c.empty_inputs.new.seat.me c.leave.new.seat.me (Part c.args.part) c.requires.item c.item_start-start.ensures c.empty_members.ensures.emptying c.empty_inputs.ensures.inputs first c.leave.ensures.left
