use Rattle.std.proofs.Common.{◌≡◌, ℕ, ◌+◌, ◌-◌, ◌<◌, ◌≤◌, ◌⊎◌, List, [], ◌∷◌, length, length-append, map, filter, get_or, sym, ap, ◌∙◌, subst, inl, inr, arith}
use Rattle.std.specs.Mem.Slots.{slots_items}
use Rattle.std.proofs.lemmas.List.{take_all}
use mathlib.Core.Option.{some}
use lib.ListN.{get_elem?}
use Rattle.pk_plan.specs.Plans.{PlanView, place_of}
use Rattle.pk_iterate.specs.Ending.{result_cell}
use Rattle.pk_items.specs.Items.{points_in}
use Rattle.pk_items.specs.Tops.{AreTops}
use Rattle.pk_layout.specs.Layouts.{LayoutView, first_of}
use Rattle.pk_board.specs.Parts.{ends_item}
use Rattle.pk_board.proofs.Ending_board.{ends_within}
use Rattle.pk_board.proofs.Ending_parts.{ends_item_is, item_or_not, listed_at, made_one, made_none, slot_place}
use Rattle.pk_board.proofs.parts.parted.Goals as goal

pub take_slots-slot-requires-clause-within : goal.take_slots-slot-requires-clause-within
take_slots-slot-requires-clause-within g c =
    let w = c.args.subject.now.wiring in
    let p = w.plan in
    let l = w.layout in
    let axioms = c.wired.ensures.axioms in
    let laid = c.wired.ensures.laid_out in
    let at = c.loop-e.e-index in
    let e = get_or c.listing-e-items.result.now at 0 in
    let i = c.loop-e.invariant in
    let listed = listed_at p c.plan-plan.result.now c.listing-e-items.result.now at axioms c.plan-plan.ensures c.listing-e-items.ensures (omega (arith, c.loop-e-test.true, c.loop-e.auto.e-index-end)) in
    let start : c.first_slot.result ≡ first_of l e = c.first_slot.ensures ∙ ap (λ (m : LayoutView). first_of m e) c.layout-layout.ensures in
    let stop : c.first_slot-in-loop-e.result ≡ first_of l (e + 1) = c.first_slot-in-loop-e.ensures ∙ ap (λ (m : LayoutView). first_of m (e + 1)) c.layout-layout.ensures in
    omega (arith, stop, ends_within laid e listed.2, i.long, c.requires.slots)

pub take_slots-slot-requires-clause-full : goal.take_slots-slot-requires-clause-full
take_slots-slot-requires-clause-full g c = λ k from before.
    let w = c.args.subject.now.wiring in
    let p = w.plan in
    let l = w.layout in
    let axioms = c.wired.ensures.axioms in
    let laid = c.wired.ensures.laid_out in
    let at = c.loop-e.e-index in
    let e = get_or c.listing-e-items.result.now at 0 in
    let i = c.loop-e.invariant in
    let listed = listed_at p c.plan-plan.result.now c.listing-e-items.result.now at axioms c.plan-plan.ensures c.listing-e-items.ensures (omega (arith, c.loop-e-test.true, c.loop-e.auto.e-index-end)) in
    let start : c.first_slot.result ≡ first_of l e = c.first_slot.ensures ∙ ap (λ (m : LayoutView). first_of m e) c.layout-layout.ensures in
    let stop : c.first_slot-in-loop-e.result ≡ first_of l (e + 1) = c.first_slot-in-loop-e.ensures ∙ ap (λ (m : LayoutView). first_of m (e + 1)) c.layout-layout.ensures in
    let own = laid.together e k listed.2 (omega (arith, from, start)) (omega (arith, before, stop)) in
    i.full k own.0 (omega (arith, ap (place_of p) own.1, listed.3))

pub file-requires-clause-element : goal.file-requires-clause-element
file-requires-clause-element g c =
    let w = c.args.subject.now.wiring in
    let p = w.plan in
    let l = w.layout in
    let axioms = c.wired.ensures.axioms in
    let laid = c.wired.ensures.laid_out in
    let at = c.loop-e.e-index in
    let e = get_or c.listing-e-items.result.now at 0 in
    let i = c.loop-e.invariant in
    let listed = listed_at p c.plan-plan.result.now c.listing-e-items.result.now at axioms c.plan-plan.ensures c.listing-e-items.ensures (omega (arith, c.loop-e-test.true, c.loop-e.auto.e-index-end)) in
    let start : c.first_slot.result ≡ first_of l e = c.first_slot.ensures ∙ ap (λ (m : LayoutView). first_of m e) c.layout-layout.ensures in
    let stop : c.first_slot-in-loop-e.result ≡ first_of l (e + 1) = c.first_slot-in-loop-e.ensures ∙ ap (λ (m : LayoutView). first_of m (e + 1)) c.layout-layout.ensures in
    omega (arith, listed.2, c.requires.items.tops.long, ap length i.tops)

pub file-requires-clause-room : goal.file-requires-clause-room
file-requires-clause-room g c =
    let w = c.args.subject.now.wiring in
    let p = w.plan in
    let l = w.layout in
    let axioms = c.wired.ensures.axioms in
    let laid = c.wired.ensures.laid_out in
    let at = c.loop-e.e-index in
    let e = get_or c.listing-e-items.result.now at 0 in
    let i = c.loop-e.invariant in
    let listed = listed_at p c.plan-plan.result.now c.listing-e-items.result.now at axioms c.plan-plan.ensures c.listing-e-items.ensures (omega (arith, c.loop-e-test.true, c.loop-e.auto.e-index-end)) in
    let start : c.first_slot.result ≡ first_of l e = c.first_slot.ensures ∙ ap (λ (m : LayoutView). first_of m e) c.layout-layout.ensures in
    let stop : c.first_slot-in-loop-e.result ≡ first_of l (e + 1) = c.first_slot-in-loop-e.ensures ∙ ap (λ (m : LayoutView). first_of m (e + 1)) c.layout-layout.ensures in
    omega (arith, listed.0, i.count, i.room)

pub file-requires-clause-part : goal.file-requires-clause-part
file-requires-clause-part g c = λ before same.
    let w = c.args.subject.now.wiring in
    let p = w.plan in
    let l = w.layout in
    let axioms = c.wired.ensures.axioms in
    let laid = c.wired.ensures.laid_out in
    let at = c.loop-e.e-index in
    let e = get_or c.listing-e-items.result.now at 0 in
    let i = c.loop-e.invariant in
    let listed = listed_at p c.plan-plan.result.now c.listing-e-items.result.now at axioms c.plan-plan.ensures c.listing-e-items.ensures (omega (arith, c.loop-e-test.true, c.loop-e.auto.e-index-end)) in
    let start : c.first_slot.result ≡ first_of l e = c.first_slot.ensures ∙ ap (λ (m : LayoutView). first_of m e) c.layout-layout.ensures in
    let stop : c.first_slot-in-loop-e.result ≡ first_of l (e + 1) = c.first_slot-in-loop-e.ensures ∙ ap (λ (m : LayoutView). first_of m (e + 1)) c.layout-layout.ensures in
    let took = c.take_slots-slot.ensures in
    let slot_at : get_elem? (slots_items c.args.closed.slots) (first_of l e) ≡ some c.take_slots-slot.result =
    ap (λ (k : ℕ). get_elem? (slots_items c.args.closed.slots) k) (sym start) ∙ ap (λ xs. get_elem? xs c.first_slot.result) (sym i.items) ∙ took.first in
    let end : c.elements-end.result - 1 + 1 ≡ p.elements = omega (arith, c.elements-end.ensures, ap (λ (q : PlanView). q.elements) c.plan-plan.ensures, axioms.counted) in
    let tops = subst (AreTops p) (sym i.tops) c.requires.items.tops in
    elim (item_or_not p e (c.elements-end.result - 1) c.loop-e.lean.tops axioms tops listed.2 end) [
      | inl holds ↦ (let here = c.requires.parts e c.take_slots-slot.result holds.2 slot_at in (here.0, here.1))
      | inr fails ↦ absurd (fails.0 before same)
    ]

outside_by : {a b from end : ℕ} (k : ℕ) → from ≡ a → end ≡ b → (k < a) ⊎ (b ≤ k) → (k < from) ⊎ (end ≤ k)
outside_by k from_is end_is (inl less) = inl (omega (arith, less, from_is))
outside_by k from_is end_is (inr more) = inr (omega (arith, more, end_is))

pub loop-e-preserved : goal.loop-e-preserved
loop-e-preserved g c =
    let w = c.args.subject.now.wiring in
    let p = w.plan in
    let l = w.layout in
    let axioms = c.wired.ensures.axioms in
    let laid = c.wired.ensures.laid_out in
    let at = c.loop-e.e-index in
    let e = get_or c.listing-e-items.result.now at 0 in
    let i = c.loop-e.invariant in
    let listed = listed_at p c.plan-plan.result.now c.listing-e-items.result.now at axioms c.plan-plan.ensures c.listing-e-items.ensures (omega (arith, c.loop-e-test.true, c.loop-e.auto.e-index-end)) in
    let start : c.first_slot.result ≡ first_of l e = c.first_slot.ensures ∙ ap (λ (m : LayoutView). first_of m e) c.layout-layout.ensures in
    let stop : c.first_slot-in-loop-e.result ≡ first_of l (e + 1) = c.first_slot-in-loop-e.ensures ∙ ap (λ (m : LayoutView). first_of m (e + 1)) c.layout-layout.ensures in
    let took = c.take_slots-slot.ensures in
    let slot_at : get_elem? (slots_items c.args.closed.slots) (first_of l e) ≡ some c.take_slots-slot.result =
    ap (λ (k : ℕ). get_elem? (slots_items c.args.closed.slots) k) (sym start) ∙ ap (λ xs. get_elem? xs c.first_slot.result) (sym i.items) ∙ took.first in
    let end : c.elements-end.result - 1 + 1 ≡ p.elements = omega (arith, c.elements-end.ensures, ap (λ (q : PlanView). q.elements) c.plan-plan.ensures, axioms.counted) in
    let tops = subst (AreTops p) (sym i.tops) c.requires.items.tops in
    let filed = c.file.ensures in
    let old = c.loop-e.lean.parts in
    let new = c.file.new.lean.parts in
    let which = item_or_not p e (c.elements-end.result - 1) c.loop-e.lean.tops axioms tops listed.2 end in
    let in_range : at < length p.listing = omega (arith, listed.0, axioms.listed) in
    record {
      items = took.items ∙ i.items;
      long = took.long ∙ i.long;
      taken = λ k in_slots before. elim (slot_place axioms laid e at k listed.2 listed.3 in_slots) [
        | inl here ↦ took.taken k (omega (arith, here.0, start)) (omega (arith, here.1, stop))
        | inr there ↦ took.others k (outside_by k start stop there.0) ∙ i.taken k in_slots (omega (arith, before, there.1))
      ];
      full = λ k in_slots after. elim (slot_place axioms laid e at k listed.2 listed.3 in_slots) [
        | inl here ↦ absurd (omega (arith, after, here.2))
        | inr there ↦ took.others k (outside_by k start stop there.0) ∙ i.full k in_slots (omega (arith, after))
      ];
      tops = filed.same.0 ∙ i.tops;
      room = filed.same.1 ∙ i.room;
      count = elim which [
        | inl holds ↦ (
            let here = c.requires.parts e c.take_slots-slot.result holds.2 slot_at in
            omega (arith, i.count, ap length (filed.filed holds.0 holds.1 here.0 here.1), length-append old (here.0 ∷ [])))
        | inr fails ↦ omega (arith, i.count, ap length (filed.passed fails.0))
      ];
      parts = λ order ends ordered. elim which [
        | inl holds ↦ (
            let here = c.requires.parts e c.take_slots-slot.result holds.2 slot_at in
            let make : ℕ → g.row.Y-Part.Denot = λ j. g.Y.Parted.part_of c.args.subject.now.system (points_in p j) (map (result_cell ends) (points_in p j)) in
            made_one (ends_item p) make p.listing at old new here.0 in_range (ap (ends_item p) (sym listed.1) ∙ ends_item_is p e holds.2)
            (filed.filed holds.0 holds.1 here.0 here.1) (here.2 order ends ordered ∙ ap make listed.1) (i.parts order ends ordered))
        | inr fails ↦ (
            let make : ℕ → g.row.Y-Part.Denot = λ j. g.Y.Parted.part_of c.args.subject.now.system (points_in p j) (map (result_cell ends) (points_in p j)) in
            filed.passed fails.0 ∙ made_none (ends_item p) make p.listing at old in_range (ap (ends_item p) (sym listed.1) ∙ fails.1) (i.parts order ends ordered))
      ];
    }

pub returns : goal.returns
returns g c = λ order ends ordered.
    let p = c.args.subject.now.wiring.plan in
    let axioms = c.wired.ensures.axioms in
    let all : length p.listing ≤ c.loop-e.e-index = omega (arith, c.loop-e-test.false, c.loop-e.auto.e-index-end, ap length (c.listing-e-items.ensures ∙ ap (λ (q : PlanView). q.listing) c.plan-plan.ensures)) in
    let make : ℕ → g.row.Y-Part.Denot = λ j. g.Y.Parted.part_of c.args.subject.now.system (points_in p j) (map (result_cell ends) (points_in p j)) in
    c.into_parts.ensures ∙ c.loop-e.invariant.parts order ends ordered ∙ ap (λ (xs : List ℕ). map make (filter (ends_item p) xs)) (take_all c.loop-e.e-index p.listing all)
