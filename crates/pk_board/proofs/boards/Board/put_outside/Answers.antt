use Rattle.std.proofs.Common.{◌≡◌, ◌≢◌, ◌+◌, ◌-◌, ◌<◌, [], ◌∷◌, length, length-append, All, sym, ap, subst, ◌∙◌, inl, arith}
use Rattle.std.specs.Arc.{arc_value}
use Rattle.pk_items.specs.Items.{top_of}
use Rattle.pk_layout.specs.Layouts.{slots_of, reader_of}
use Rattle.pk_words.specs.declared.slot.Slot.TheVariants.{Cell}
use Rattle.pk_words.specs.Kinds.{HasCell}
use Rattle.pk_board.proofs.Asking.{at_board, items_at}
use Rattle.pk_board.proofs.Ending_board.{ends_within}
use Rattle.pk_board.proofs.Reading_slots.{top_read}
use Rattle.pk_board.proofs.Emptying_slots.{taken_one, left_one, put_one, put_passed, put_outside, all_less}
use Rattle.pk_board.proofs.boards.Board.put_outside.Goals as goal

pub top_at-requires-clause-slot : goal.top_at-requires-clause-slot
top_at-requires-clause-slot g c =
    let w = c.args.self.now.subject.wiring in
    let last = c.args.last in
    let slot = c.loop-cell.slot in
    let i = c.loop-cell.invariant in
    let kept = at_board g.Y.System.meaning c.args.self.now c.self.inside.subject c.self.inside.table.shared.key c.self.inside.table.shared.table_id c.self.view_is c.self.invariant.kept in
    let items = items_at g.Y.System.meaning c.args.self.now c.self.inside.subject c.self.inside.table.shared.key c.self.inside.table.shared.table_id c.self.inside.earliest c.self.inside.results c.self.inside.lean c.self.view_is c.self.invariant c.requires.lean in
    let in_slots : slot - 1 < slots_of w.layout = omega (arith, i.at, i.within, ends_within kept.wired.laid_out last c.requires.item.element) in
    omega (arith, in_slots, items.readers.long)

pub top_at-requires-clause-reader : goal.top_at-requires-clause-reader
top_at-requires-clause-reader g c =
    let w = c.args.self.now.subject.wiring in
    let last = c.args.last in
    let slot = c.loop-cell.slot in
    let i = c.loop-cell.invariant in
    let kept = at_board g.Y.System.meaning c.args.self.now c.self.inside.subject c.self.inside.table.shared.key c.self.inside.table.shared.table_id c.self.view_is c.self.invariant.kept in
    let items = items_at g.Y.System.meaning c.args.self.now c.self.inside.subject c.self.inside.table.shared.key c.self.inside.table.shared.table_id c.self.inside.earliest c.self.inside.results c.self.inside.lean c.self.view_is c.self.invariant c.requires.lean in
    let in_slots : slot - 1 < slots_of w.layout = omega (arith, i.at, i.within, ends_within kept.wired.laid_out last c.requires.item.element) in
    (top_read kept.wired.laid_out c.self.inside.lean (slot - 1) items in_slots).0

pub loop-cell-preserved-then-top_at-last : goal.loop-cell-preserved-then-top_at-last
loop-cell-preserved-then-top_at-last g c =
    let w = c.args.self.now.subject.wiring in
    let last = c.args.last in
    let slot = c.loop-cell.slot in
    let i = c.loop-cell.invariant in
    let kept = at_board g.Y.System.meaning c.args.self.now c.self.inside.subject c.self.inside.table.shared.key c.self.inside.table.shared.table_id c.self.view_is c.self.invariant.kept in
    let items = items_at g.Y.System.meaning c.args.self.now c.self.inside.subject c.self.inside.table.shared.key c.self.inside.table.shared.table_id c.self.inside.earliest c.self.inside.results c.self.inside.lean c.self.view_is c.self.invariant c.requires.lean in
    let in_slots : slot - 1 < slots_of w.layout = omega (arith, i.at, i.within, ends_within kept.wired.laid_out last c.requires.item.element) in
    let own = kept.wired.laid_out.together last (slot - 1) c.requires.item.element (omega (arith, i.at)) (omega (arith, i.at, i.within)) in
    let top : c.top_at.result ≡ top_of w.plan (reader_of w.layout (slot - 1)) = c.top_at.ensures ∙ (top_read kept.wired.laid_out c.self.inside.lean (slot - 1) items in_slots).1 in
    let n : length c.loop-cell.cells.items ≡ length c.pop.new.self.items + 1 = ap length c.in-Some.ensures.items ∙ length-append c.pop.new.self.items (c.in-Some.cell ∷ []) in
    let other : top_of w.plan (reader_of w.layout (slot - 1)) ≢ last = λ q. c.if-top_at-last.true (top ∙ q) in
    record {
      same = (c.put.ensures.same.0 ∙ i.same.0, c.put.ensures.same.1 ∙ i.same.1);
      at = omega (arith, i.at, n);
      within = omega (arith, i.within);
      taken = taken_one (slot - 1) c.args.seat.now.me c.loop-cell.seat.me c.put.new.seat.me (Cell c.in-Some.cell) i.taken c.put.ensures.put;
      equal = λ d all. (all_less (λ x. arc_value x ≡ d) c.pop.new.self.items c.in-Some.cell (subst (All (λ x. arc_value x ≡ d)) c.in-Some.ensures.items (i.equal d all))).0;
      left = λ d part all. left_one w last (slot - 1) d part c.loop-cell.seat.me c.put.new.seat.me (Cell c.in-Some.cell) c.put.ensures.put
          (inl (own.1, other, ap HasCell (all_less (λ x. arc_value x ≡ d) c.pop.new.self.items c.in-Some.cell (subst (All (λ x. arc_value x ≡ d)) c.in-Some.ensures.items (i.equal d all))).1)) (i.left d part all);
      put = put_one w last slot (slot - 1) c.loop-cell.seat.me c.put.new.seat.me (Cell c.in-Some.cell) i.put (omega (arith, i.at)) (own.1, other) c.put.ensures.put;
    }

pub loop-cell-preserved : goal.loop-cell-preserved
loop-cell-preserved g c =
    let w = c.args.self.now.subject.wiring in
    let last = c.args.last in
    let slot = c.loop-cell.slot in
    let i = c.loop-cell.invariant in
    let kept = at_board g.Y.System.meaning c.args.self.now c.self.inside.subject c.self.inside.table.shared.key c.self.inside.table.shared.table_id c.self.view_is c.self.invariant.kept in
    let items = items_at g.Y.System.meaning c.args.self.now c.self.inside.subject c.self.inside.table.shared.key c.self.inside.table.shared.table_id c.self.inside.earliest c.self.inside.results c.self.inside.lean c.self.view_is c.self.invariant c.requires.lean in
    let in_slots : slot - 1 < slots_of w.layout = omega (arith, i.at, i.within, ends_within kept.wired.laid_out last c.requires.item.element) in
    let own = kept.wired.laid_out.together last (slot - 1) c.requires.item.element (omega (arith, i.at)) (omega (arith, i.at, i.within)) in
    let top : c.top_at.result ≡ top_of w.plan (reader_of w.layout (slot - 1)) = c.top_at.ensures ∙ (top_read kept.wired.laid_out c.self.inside.lean (slot - 1) items in_slots).1 in
    let n : length c.loop-cell.cells.items ≡ length c.pop.new.self.items + 1 = ap length c.in-Some.ensures.items ∙ length-append c.pop.new.self.items (c.in-Some.cell ∷ []) in
    record {
      same = i.same;
      at = omega (arith, i.at, n);
      within = omega (arith, i.within);
      taken = i.taken;
      equal = λ d all. (all_less (λ x. arc_value x ≡ d) c.pop.new.self.items c.in-Some.cell (subst (All (λ x. arc_value x ≡ d)) c.in-Some.ensures.items (i.equal d all))).0;
      left = i.left;
      put = put_passed w last slot (slot - 1) c.loop-cell.seat.me i.put (omega (arith, i.at)) (sym top ∙ c.if-top_at-last.false);
    }

pub returns-clause-outside : goal.returns-clause-outside
returns-clause-outside g c =
    let kept = at_board g.Y.System.meaning c.args.self.now c.self.inside.subject c.self.inside.table.shared.key c.self.inside.table.shared.table_id c.self.view_is c.self.invariant.kept in
    let none : length c.loop-cell.cells.items ≡ 0 = grind (arith, c.in_default.ensures.cases) in
    put_outside kept.wired c.args.last c.loop-cell.slot c.loop-cell.seat.me c.requires.item (omega (arith, c.loop-cell.invariant.at, none)) c.loop-cell.invariant.put
