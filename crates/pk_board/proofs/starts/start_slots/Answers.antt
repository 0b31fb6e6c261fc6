use Rattle.std.proofs.Common.{arith, ◌≡◌, ◌∷◌, [], length, length-append, sym, ap, ◌∙◌, subst, inl, inr}
use Rattle.std.specs.Arc.{arc_value}
use mathlib.Core.Option.{some}
use lib.ListN.{get_elem?}
use Rattle.pk_layout.specs.Layouts.{owner_of}
use Rattle.pk_words.specs.declared.slot.Slot.TheVariants.{Cell}
use Rattle.pk_words.specs.Kinds.{HasCell, kind_of}
use Rattle.pk_board.proofs.Starting.{elem_last}
use Rattle.pk_board.proofs.starts.start_slots.Goals as goal

pub loop-slot-preserved : goal.loop-slot-preserved
loop-slot-preserved g c =
    let l = c.args.layout.now in
    let i = c.loop-slot.invariant in
    let items = c.in_ok-push.ensures.items in
    let own = c.requires.together c.loop-e.e c.loop-slot.slot c.loop-e-test.true (omega (arith, c.loop-slot.auto.slot, c.first_slot-slot.ensures)) (omega (arith, c.loop-slot-test.true, c.first_slot-slot-end.ensures)) in
    let value : arc_value c.in_ok-clone.field-0 ≡ (g.Y.System.meaning c.args.system.now).first c.loop-e.e = c.in_ok-clone.ensures.cases ∙ c.in_ok-cell.ensures.ok ∙ c.in_ok-first.ensures in
    record {
      long = ap length items ∙ length-append c.loop-slot.slots.items (Cell c.in_ok-clone.field-0 ∷ []) ∙ omega (arith, i.long);
      each = λ k x at. elim (elem_last c.loop-slot.slots.items k (Cell c.in_ok-clone.field-0) x (subst (λ xs. get_elem? xs k ≡ some x) items at)) [
        | inl old ↦ i.each k x old
        | inr p ↦ ap kind_of (sym p.1) ∙ ap HasCell (value ∙ ap (g.Y.System.meaning c.args.system.now).first (sym (ap (owner_of l) (p.0 ∙ i.long) ∙ own.1)))
      ];
    }
