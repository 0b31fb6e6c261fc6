use Rattle.std.proofs.Common.{◌≡◌, ℕ, ◌+◌, ◌-◌, [], ◌∷◌, map, length, replicate, sym, ap, ◌∙◌, refl, subst, arith}
use Rattle.std.proofs.lemmas.List.{length-append}
use Rattle.std.specs.Arc.{arc_value}
use Rattle.pk_layout.specs.Layouts.{LayoutView, first_of}
use Rattle.pk_words.specs.declared.slot.Slot.TheVariants.{Cell}
use Rattle.pk_words.specs.Kinds.{HasCell}
use Rattle.pk_board.specs.Writing.{IsWriting}
use Rattle.pk_board.proofs.Asking.{at_board}
use Rattle.pk_board.proofs.Writing_slots.{writes_none, copies_less, held_still, home_before, writes_before}
use Rattle.pk_board.proofs.boards.Board.put_all.Goals as goal

pub loop-cell-init : goal.loop-cell-init
loop-cell-init g c =
    let w = c.args.self.now.subject.wiring in
    let e = c.args.e in
    let slot : c.first_slot-slot.result ≡ first_of w.layout (e + 1) = c.first_slot-slot.ensures ∙ ap (λ (l : LayoutView). first_of l (e + 1)) (c.layout.ensures ∙ ap (λ b. b.subject.wiring.layout) c.self.view_is) in
    record {
      same = (refl, refl);
      at = slot ∙ sym c.requires.count;
      within = omega (arith, slot);
      equal = c.requires.same;
      writing = writes_none w e c.first_slot-slot.result (arc_value c.args.first) c.args.seat.now.me c.requires.idle (omega (arith, slot));
    }

pub overflow_sub-slot : goal.overflow_sub-slot
overflow_sub-slot g c = omega (arith, c.loop-cell.invariant.at)

pub put-requires-clause-of_board : goal.put-requires-clause-of_board
put-requires-clause-of_board g c κs within = c.loop-cell.invariant.same.0 ∙ c.requires.of_board

pub put-requires-clause-slot : goal.put-requires-clause-slot
put-requires-clause-slot g c κs within = (omega (arith, c.loop-cell.invariant.at), omega (arith, c.loop-cell.invariant.at, c.loop-cell.invariant.within))

pub put-requires-clause-held : goal.put-requires-clause-held
put-requires-clause-held g c κs within = held_still c.args.e c.args.seat.now.me.0 c.loop-cell.seat.me.0 c.loop-cell.invariant.writing.rest c.requires.held

pub put-requires-clause-at_home : goal.put-requires-clause-at_home
put-requires-clause-at_home g c κs within =
    home_before c.args.self.now.subject.wiring c.args.e c.loop-cell.slot (c.loop-cell.slot - 1) (arc_value c.args.first) c.args.seat.now.me.0 c.loop-cell.seat.me c.loop-cell.invariant.writing (omega (arith, c.loop-cell.invariant.at))

pub loop-cell-preserved : goal.loop-cell-preserved
loop-cell-preserved g c =
    let i = c.loop-cell.invariant in
    let w = c.args.self.now.subject.wiring in
    let e = c.args.e in
    let slot = c.loop-cell.slot in
    let v = arc_value c.args.first in
    let old = c.args.seat.now.me.0 in
    let less = copies_less arc_value c.pop.new.self.items c.in-Some.cell v (subst (λ xs. map arc_value xs ≡ replicate (length xs) v) c.in-Some.ensures.items i.equal) in
    let n : length c.loop-cell.cells.items ≡ length c.pop.new.self.items + 1 = ap length c.in-Some.ensures.items ∙ length-append c.pop.new.self.items (c.in-Some.cell ∷ []) in
    let kept = at_board g.Y.System.meaning c.args.self.now c.self.inside.subject c.self.inside.table.shared.key c.self.inside.table.shared.table_id c.self.view_is c.self.invariant.kept in
    let own = kept.wired.laid_out.together e (slot - 1) c.requires.element (omega (arith, i.at)) (omega (arith, i.at, i.within)) in
    record {
      same = (c.put.ensures.same.0 ∙ i.same.0, c.put.ensures.same.1 ∙ i.same.1);
      at = omega (arith, i.at, n);
      within = omega (arith, i.within);
      equal = less.0;
      writing = writes_before w e slot (slot - 1) v old c.loop-cell.seat.me c.put.new.seat.me (Cell c.in-Some.cell) i.writing (omega (arith, i.at)) c.put.ensures.put (ap HasCell less.1) own.1;
    }

pub put-requires-2-clause-of_board : goal.put-requires-2-clause-of_board
put-requires-2-clause-of_board g c κs within = c.loop-cell.invariant.same.0 ∙ c.requires.of_board

pub put-requires-2-clause-held : goal.put-requires-2-clause-held
put-requires-2-clause-held g c κs within = held_still c.args.e c.args.seat.now.me.0 c.loop-cell.seat.me.0 c.loop-cell.invariant.writing.rest c.requires.held

pub put-requires-2-clause-slot : goal.put-requires-2-clause-slot
put-requires-2-clause-slot g c κs within = (omega (arith, c.loop-cell.invariant.at), omega (arith, c.loop-cell.invariant.at, c.loop-cell.invariant.within))

pub put-requires-2-clause-at_home : goal.put-requires-2-clause-at_home
put-requires-2-clause-at_home g c κs within =
    home_before c.args.self.now.subject.wiring c.args.e c.loop-cell.slot (c.loop-cell.slot - 1) (arc_value c.args.first) c.args.seat.now.me.0 c.loop-cell.seat.me c.loop-cell.invariant.writing (omega (arith, c.loop-cell.invariant.at))

pub returns-clause-written : goal.returns-clause-written
returns-clause-written g c =
    let i = c.loop-cell.invariant in
    let w = c.args.self.now.subject.wiring in
    let e = c.args.e in
    let slot = c.loop-cell.slot in
    let v = arc_value c.args.first in
    let old = c.args.seat.now.me.0 in
    let none : length c.loop-cell.cells.items ≡ 0 = grind (arith, c.in_default.ensures.cases) in
    let kept = at_board g.Y.System.meaning c.args.self.now c.self.inside.subject c.self.inside.table.shared.key c.self.inside.table.shared.table_id c.self.view_is c.self.invariant.kept in
    let own = kept.wired.laid_out.together e (slot - 1) c.requires.element (omega (arith, i.at)) (omega (arith, i.at, i.within)) in
    subst (λ (k : ℕ). IsWriting w e v k old c.put-2.new.seat.me) (omega (arith, i.at, none))
    (writes_before w e slot (slot - 1) v old c.loop-cell.seat.me c.put-2.new.seat.me (Cell c.args.first) i.writing (omega (arith, i.at)) c.put-2.ensures.put refl own.1)
