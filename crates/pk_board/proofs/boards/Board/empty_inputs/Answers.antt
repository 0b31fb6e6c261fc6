use Rattle.std.proofs.Common.{◌≡◌, ℕ, ◌<◌, length, sym, ap, subst, ◌∙◌, arith}
use Rattle.pk_plan.specs.Shape.{has}
use Rattle.pk_layout.specs.Layouts.{LayoutView, slots_of, input_of, reader_of}
use Rattle.pk_words.specs.declared.slot.Slot.TheVariants.{Gone}
use Rattle.pk_board.proofs.Asking.{at_board}
use Rattle.pk_board.proofs.Emptying_slots.{taken_one, left_empty, inputs_more, input_home}
use Rattle.pk_board.proofs.boards.Board.empty_inputs.Goals as goal

pub leave-requires-clause-at_home : goal.leave-requires-clause-at_home
leave-requires-clause-at_home g c κs within =
    let board = c.args.self.now in
    let e = c.args.e in
    let place = c.loop-place.place in
    let slot = c.input_slot-slot.result in
    let i = c.loop-place.invariant in
    let kept = at_board g.Y.System.meaning c.args.self.now c.self.inside.subject c.self.inside.table.shared.key c.self.inside.table.shared.table_id c.self.view_is c.self.invariant.kept in
    let in_range : place < length ((g.Y.System.meaning board.subject.system).reads e) = omega (arith, c.loop-place-test.true, ap length (c.reads-place-end.ensures ∙ ap (λ y. (g.Y.System.meaning y).reads e) (c.system.ensures ∙ ap (λ b. b.subject.system) c.self.view_is))) in
    let at : slot ≡ input_of board.subject.wiring.layout e place = c.input_slot-slot.ensures ∙ ap (λ (m : LayoutView). input_of m e place) (c.layout.ensures ∙ ap (λ b. b.subject.wiring.layout) c.self.view_is) in
    ap (has slot) i.taken.out ∙ input_home kept.wired.laid_out e place slot c.args.seat.now.me c.loop-place.seat.me c.requires.element in_range at i.inputs c.requires.at_home

pub loop-place-preserved : goal.loop-place-preserved
loop-place-preserved g c =
    let board = c.args.self.now in
    let l = board.subject.wiring.layout in
    let e = c.args.e in
    let place = c.loop-place.place in
    let slot = c.input_slot-slot.result in
    let i = c.loop-place.invariant in
    let old = c.args.seat.now.me in
    let me = c.loop-place.seat.me in
    let new = c.leave.new.seat.me in
    let kept = at_board g.Y.System.meaning c.args.self.now c.self.inside.subject c.self.inside.table.shared.key c.self.inside.table.shared.table_id c.self.view_is c.self.invariant.kept in
    let in_range : place < length ((g.Y.System.meaning board.subject.system).reads e) = omega (arith, c.loop-place-test.true, ap length (c.reads-place-end.ensures ∙ ap (λ y. (g.Y.System.meaning y).reads e) (c.system.ensures ∙ ap (λ b. b.subject.system) c.self.view_is))) in
    let at : slot ≡ input_of l e place = c.input_slot-slot.ensures ∙ ap (λ (m : LayoutView). input_of m e place) (c.layout.ensures ∙ ap (λ b. b.subject.wiring.layout) c.self.view_is) in
    let input = kept.wired.laid_out.inputs e place c.requires.element in_range in
    record {
      same = (c.leave.ensures.same.0 ∙ i.same.0, c.leave.ensures.same.1 ∙ i.same.1);
      taken = taken_one slot old me new Gone i.taken c.leave.ensures.left;
      left = λ cell part h. left_empty kept.wired c.args.last slot e cell part me new c.requires.element (subst (λ (k : ℕ). k < slots_of l) (sym at) input.0) (ap (reader_of l) at ∙ input.2) c.requires.of
          (λ q. kept.wired.laid_out.further e place c.args.last c.requires.element in_range c.requires.item.element (sym at ∙ q)) c.leave.ensures.left (i.left cell part h);
      inputs = inputs_more l e place slot old me new Gone i.inputs at c.leave.ensures.left;
    }
