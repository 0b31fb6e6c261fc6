use Rattle.std.proofs.Common.{◌≡◌, ℕ, ◌+◌, ◌/◌, ◌<◌, inl, inr, [], ◌∷◌, length, map, sym, ap, ◌∙◌, arith, length-append}
use Rattle.std.specs.Arc.{arc_value}
use Rattle.std.specs.List.{range_with_len}
use Rattle.std.specs.Mem.Slots.{slots_items}
use Rattle.std.proofs.lemmas.Bool.{cases_lt}
use mathlib.Core.Option.{some}
use lib.ListN.{get_elem?}
use Rattle.pk_plan.specs.Plans.{PlanView}
use Rattle.pk_iterate.specs.Ending.{result_cell, result_count}
use Rattle.pk_words.specs.declared.slot.Slot.{Slot}
use Rattle.pk_words.specs.Kinds.{HasCell, IsCellOf, kind_of}
use Rattle.pk_iterate.proofs.Lists.{map_more}
use Rattle.pk_layout.specs.Layouts.{LayoutView, first_of}
use Rattle.pk_board.proofs.Ending_board.{ends_within}
use Rattle.pk_board.proofs.ends.gathered.Goals as goal

pub take_slots-requires-clause-within : goal.take_slots-requires-clause-within
take_slots-requires-clause-within g c =
    let l = c.args.subject.now.wiring.layout in
    let low : c.loop-e.e < c.args.subject.now.wiring.plan.elements = omega (arith, c.loop-e-test.true, c.elements-e-end.ensures, ap (λ (p : PlanView). p.elements) c.plan.ensures) in
    let end : c.first_slot-end.result ≡ first_of l (c.loop-e.e + 1) = c.first_slot-end.ensures ∙ ap (λ (m : LayoutView). first_of m (c.loop-e.e + 1)) c.layout-layout.ensures in
    omega (arith, end, ends_within c.wired.ensures.laid_out c.loop-e.e low, c.loop-e.invariant.long, c.requires.slots)

pub take_slots-requires-clause-full : goal.take_slots-requires-clause-full
take_slots-requires-clause-full g c = λ k from before.
    let l = c.args.subject.now.wiring.layout in
    let low : c.loop-e.e < c.args.subject.now.wiring.plan.elements = omega (arith, c.loop-e-test.true, c.elements-e-end.ensures, ap (λ (p : PlanView). p.elements) c.plan.ensures) in
    let start : c.first_slot-from.result ≡ first_of l c.loop-e.e = c.first_slot-from.ensures ∙ ap (λ (m : LayoutView). first_of m c.loop-e.e) c.layout-layout.ensures in
    let end : c.first_slot-end.result ≡ first_of l (c.loop-e.e + 1) = c.first_slot-end.ensures ∙ ap (λ (m : LayoutView). first_of m (c.loop-e.e + 1)) c.layout-layout.ensures in
    c.loop-e.invariant.full k (omega (arith, from, start)) (omega (arith, before, end, ends_within c.wired.ensures.laid_out c.loop-e.e low, c.loop-e.invariant.long, c.requires.slots))

cell_same : {C P : Type 0} (x : Slot C P) (c d : C) → kind_of x ≡ HasCell c → IsCellOf kind_of x d → c ≡ d
cell_same x c d is other = cc

pub cell_of-cell-requires : goal.cell_of-cell-requires
cell_of-cell-requires g c =
    let l = c.args.subject.now.wiring.layout in
    let low : c.loop-e.e < c.args.subject.now.wiring.plan.elements = omega (arith, c.loop-e-test.true, c.elements-e-end.ensures, ap (λ (p : PlanView). p.elements) c.plan.ensures) in
    let start : c.first_slot-from.result ≡ first_of l c.loop-e.e = c.first_slot-from.ensures ∙ ap (λ (m : LayoutView). first_of m c.loop-e.e) c.layout-layout.ensures in
    let cell_at : get_elem? (slots_items c.args.closed.slots) (first_of l c.loop-e.e) ≡ some c.take_slots.result =
    ap (λ (k : ℕ). get_elem? (slots_items c.args.closed.slots) k) (sym start) ∙ ap (λ xs. get_elem? xs c.first_slot-from.result) (sym c.loop-e.invariant.items) ∙ c.take_slots.ensures.first in
    let here = c.requires.cells c.loop-e.e low c.take_slots.result cell_at in
    (here.0, here.1)

pub loop-e-preserved : goal.loop-e-preserved
loop-e-preserved g c =
    let w = c.args.subject.now.wiring in
    let l = w.layout in
    let e = c.loop-e.e in
    let i = c.loop-e.invariant in
    let took = c.take_slots.ensures in
    let low : e < w.plan.elements = omega (arith, c.loop-e-test.true, c.elements-e-end.ensures, ap (λ (p : PlanView). p.elements) c.plan.ensures) in
    let start : c.first_slot-from.result ≡ first_of l e = c.first_slot-from.ensures ∙ ap (λ (m : LayoutView). first_of m e) c.layout-layout.ensures in
    let end : c.first_slot-end.result ≡ first_of l (e + 1) = c.first_slot-end.ensures ∙ ap (λ (m : LayoutView). first_of m (e + 1)) c.layout-layout.ensures in
    let cells = ap (λ r. r.cells) c.add.ensures in
    let runs = ap (λ r. r.runs) c.add.ensures in
    let cell_at : get_elem? (slots_items c.args.closed.slots) (first_of l e) ≡ some c.take_slots.result =
    ap (λ (k : ℕ). get_elem? (slots_items c.args.closed.slots) k) (sym start) ∙ ap (λ xs. get_elem? xs c.first_slot-from.result) (sym i.items) ∙ took.first in
    let here = c.requires.cells e low c.take_slots.result cell_at in
    let word_at : get_elem? (slots_items c.args.closed.words) (e + 2) ≡ some c.word-run.result =
    ap (λ ws. get_elem? (slots_items ws) (e + 2)) (sym (took.words ∙ i.words)) ∙ c.word-run.ensures in
    record {
      items = took.items ∙ i.items;
      long = took.long ∙ i.long;
      words = took.words ∙ i.words;
      taken = λ k before. elim (cases_lt k (first_of l e)) [
        | inl less ↦ took.others k (inl (omega (arith, less, start))) ∙ i.taken k less
        | inr more ↦ took.taken k (omega (arith, more, start)) (omega (arith, before, end))
      ];
      full = λ k from within. (let rises = c.wired.ensures.laid_out.rises e low in took.others k (inr (omega (arith, from, end))) ∙ i.full k (omega (arith, from, rises)) (omega (arith, within, took.long)));
      room = ap (λ r. r.room) c.add.ensures ∙ i.room;
      count = ap length cells ∙ length-append c.loop-e.results.cells (arc_value c.cell_of-cell.result ∷ []) ∙ omega (arith, i.count);
      cells = λ order ends ordered. cells ∙ map_more (result_cell ends) c.loop-e.results.cells e (arc_value c.cell_of-cell.result) (i.cells order ends ordered) (cell_same c.take_slots.result (arc_value c.cell_of-cell.result) here.0 c.cell_of-cell.ensures here.1 ∙ here.2 order ends ordered);
      runs = λ order ends ordered. runs ∙ map_more (result_count ends) c.loop-e.results.runs e (c.word-run.result / 1048576) (i.runs order ends ordered) ((c.requires.result order ends ordered e low).run c.word-run.result word_at);
    }

pub returns : goal.returns
returns g c = λ order ends ordered.
    let w = c.args.subject.now.wiring in
    let i = c.loop-e.invariant in
    let all : c.loop-e.e ≡ w.plan.elements = omega (arith, c.loop-e-test.false, c.loop-e.auto.e-end, c.elements-e-end.ensures, ap (λ (p : PlanView). p.elements) c.plan.ensures) in
    record {
      cells = c.into_cells.ensures.cells ∙ i.cells order ends ordered ∙ ap (λ (n : ℕ). map (result_cell ends) (range_with_len 0 n)) all;
      runs = c.into_cells.ensures.runs ∙ i.runs order ends ordered ∙ ap (λ (n : ℕ). map (result_count ends) (range_with_len 0 n)) all;
      within = λ e below. (c.requires.result order ends ordered e below).within;
    }
