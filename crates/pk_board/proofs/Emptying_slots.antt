-- How the slots of an item are emptied.
use Rattle.std.proofs.Common.{◌≡◌, ◌≢◌, ℕ, ◌+◌, ◌<◌, ◌≤◌, ◌||◌, List, [], ◌∷◌, ◌++◌, length, length-append, All, Bool, get_or, true, false, refl, sym, ap, subst, ◌∙◌, ◌⊎◌, inl, inr, arith}
use Rattle.std.proofs.lemmas.Bool.{cases_lt}
use Rattle.std.proofs.lemmas.List.{get_or_append_left, get_or-append-add}
use Rattle.std.proofs.lemmas.Bool.Decides.{eqb_tells}
use Rattle.atomic_table.specs.Table.{Me}
use Rattle.pk_plan.specs.Plans.{PlanView, place_of}
use Rattle.pk_plan.specs.Shape.{has}
use Rattle.pk_iterate.specs.Behaviour.{Behaviour}
use Rattle.pk_items.specs.Items.{top_of, EndsItem}
use Rattle.pk_layout.specs.Layouts.{LayoutView, IsLaidOut, slots_of, first_of, input_of, owner_of, reader_of}
use Rattle.pk_layout.specs.Wirings.{Wiring, IsWired}
use Rattle.pk_words.specs.declared.slot.Slot.{Slot}
use Rattle.pk_words.specs.declared.slot.Slot.TheVariants.{Gone}
use Rattle.pk_words.specs.declared.view.View.{View}
use Rattle.pk_words.specs.Kinds.{kind_of}
use Rattle.pk_words.specs.Tokens.{times}
use Rattle.pk_words.specs.Views.{AllRight, slots_in, take_view}
use Rattle.pk_lean_words.specs.Emptied.{IsLeft}
use Rattle.pk_board.specs.Emptying.{IsItemFrom, IsOutside, IsBetween, HasTaken, AreLeft, IsEmptying, HasInputs, IsEmptied}
use Rattle.pk_board.proofs.Reading_slots.{first_in, first_reader}

-- a slot more in a list of slots
pub has_here : (k : ℕ) (ks : List ℕ) → has k (k ∷ ks) ≡ true
has_here k ks = elim (eqb_tells k k) [
  | inl same ↦ rw same.0 refl
  | inr other ↦ absurd (other.1 refl)
]

pub has_later : (j k : ℕ) (ks : List ℕ) → has j ks ≡ true → has j (k ∷ ks) ≡ true
has_later j k ks h = elim (eqb_tells j k) [
  | inl same ↦ rw same.0 refl
  | inr other ↦ rw other.0 h
]

pub has_either : (j k : ℕ) (ks : List ℕ) → has j (k ∷ ks) ≡ true → (j ≡ k) ⊎ (has j ks ≡ true)
has_either j k ks h = elim (eqb_tells j k) [
  | inl same ↦ inl same.1
  | inr other ↦ inr (subst (λ (t : Bool). (t || has j ks) ≡ true) other.0 h)
]

not_has : (k : ℕ) (ks : List ℕ) → (has k ks ≡ true → ⊥) → has k ks ≡ false
not_has k ks never = by_case (has k ks) refl
  where
    by_case : (t : Bool) → has k ks ≡ t → has k ks ≡ false
    by_case true q = absurd (never q)
    by_case false q = q

-- what was held still is
pub taken_held : {S : Type 0} (x : ℕ) (old new : Me S View) → HasTaken old new → 0 < times x old.0.holds → 0 < times x new.0.holds
taken_held x old new taken held = omega (arith, held, ap (λ (v : View). times x v.holds) taken.rest)

pub taken_none : {S : Type 0} (me : Me S View) → me.0.out ≡ slots_in me.1 → HasTaken me me
taken_none me out = record { rest = refl; out = out }

pub taken_one : {S : Type 0} (slot : ℕ) (old me new : Me S View) (y : S) → HasTaken old me → new ≡ (take_view slot me.0, (slot, y) ∷ me.1) → HasTaken old new
taken_one {S} slot old me new y taken is = subst (λ (m : Me S View). HasTaken old m) (sym is) (record { rest = taken.rest; out = ap (λ (ks : List ℕ). slot ∷ ks) taken.out })

pub taken_more : {S : Type 0} (old me new : Me S View) → HasTaken old me → HasTaken me new → HasTaken old new
taken_more old me new first then = record { rest = ap (λ (v : View). record v { out = old.0.out; fresh = old.0.fresh }) then.rest ∙ first.rest; out = then.out }

pub left_none : {C P : Type 0} (w : Wiring) (e : ℕ) (c : C) (part : P) (me : Me (Slot C P) View) → me.1 ≡ [] → AreLeft w e c part me
left_none w e c part me none = subst (AllRight (λ k x. IsLeft w e c part k (kind_of x))) (sym none) tt

pub left_one : {C P : Type 0} (w : Wiring) (e slot : ℕ) (c : C) (part : P) (me new : Me (Slot C P) View) (y : Slot C P) → new ≡ (take_view slot me.0, (slot, y) ∷ me.1) → IsLeft w e c part slot (kind_of y) → AreLeft w e c part me → AreLeft w e c part new
left_one {C} {P} w e slot c part me new y is left all = subst (λ (m : Me (Slot C P) View). AreLeft w e c part m) (sym is) (left, all)

-- a slot that an element of the item reads is left empty
pub left_empty : {C C' P : Type 0} {b : Behaviour C'} {w : Wiring} → IsWired b w → (e slot u : ℕ) (c : C) (part : P) (me new : Me (Slot C P) View) → u < w.plan.elements → slot < slots_of w.layout → reader_of w.layout slot ≡ u → top_of w.plan u ≡ e → slot ≢ first_of w.layout e
    → new ≡ (take_view slot me.0, (slot, Gone) ∷ me.1) → AreLeft w e c part me → AreLeft w e c part new
left_empty {w = w} wired e slot u c part me new low in_slots by top other is all =
    left_one w e slot c part me new Gone is (inr (inr (other, ap (top_of w.plan) by ∙ top, refl))) all

slots_after : {C P : Type 0} (slot : ℕ) (me new : Me (Slot C P) View) (y : Slot C P) → new ≡ (take_view slot me.0, (slot, y) ∷ me.1) → slots_in new.1 ≡ slot ∷ slots_in me.1
slots_after {C} {P} slot me new y is = ap (λ (m : Me (Slot C P) View). slots_in m.1) is

-- ---- the inputs of an element

pub inputs_none : {C P : Type 0} (l : LayoutView) (e : ℕ) (me : Me (Slot C P) View) → HasInputs l e 0 me me
inputs_none l e me = record { each = λ k h. inl h; kept = λ k h. h; inputs = λ place before. absurd (omega (arith, before)) }

pub inputs_more : {C P : Type 0} (l : LayoutView) (e count slot : ℕ) (old me new : Me (Slot C P) View) (y : Slot C P) → HasInputs l e count old me → slot ≡ input_of l e count → new ≡ (take_view slot me.0, (slot, y) ∷ me.1) → HasInputs l e (count + 1) old new
inputs_more {C} {P} l e count slot old me new y has_inputs at is =
    let slots = slots_after slot me new y is in
    record {
      each = λ k h. elim (has_either k slot (slots_in me.1) (ap (has k) (sym slots) ∙ h)) [
        | inl here ↦ inr (count, omega arith, here ∙ at)
        | inr later ↦ elim (has_inputs.each k later) [
          | inl was ↦ inl was
          | inr input ↦ inr (input.0, omega (arith, input.1), input.2)
        ]
      ];
      kept = λ k h. ap (has k) slots ∙ has_later k slot (slots_in me.1) (has_inputs.kept k h);
      inputs = λ place before. elim (eqb_tells place count) [
        | inl same ↦ ap (λ (j : ℕ). has (input_of l e j) (slots_in new.1)) same.1 ∙ ap (λ (j : ℕ). has j (slots_in new.1)) (sym at) ∙ ap (has slot) slots ∙ has_here slot (slots_in me.1)
        | inr other ↦ ap (has (input_of l e place)) slots ∙ has_later (input_of l e place) slot (slots_in me.1) (has_inputs.inputs place (omega (arith, before, other.1)))
      ];
    }

-- the next input isn't out yet
pub input_home : {C C' P : Type 0} {b : Behaviour C'} {n : ℕ} {l : LayoutView} → IsLaidOut b n l → (e count slot : ℕ) (old me : Me (Slot C P) View) → e < n → count < length (b.reads e) → slot ≡ input_of l e count → HasInputs l e count old me
    → ((k : ℕ) → k < slots_of l → reader_of l k ≡ e → k ≢ first_of l e → has k (slots_in old.1) ≡ false) → has slot (slots_in me.1) ≡ false
input_home {l = l} laid e count slot old me low in_range at has_inputs home = not_has slot (slots_in me.1) (λ h.
    elim (has_inputs.each slot h) [
      | inl was ↦ absurd (
          let input = laid.inputs e count low in_range in
          let at_home : has (input_of l e count) (slots_in old.1) ≡ false = home (input_of l e count) input.0 input.2 (laid.further e count e low in_range low) in
          let q : has (input_of l e count) (slots_in old.1) ≡ true = ap (λ (j : ℕ). has j (slots_in old.1)) (sym at) ∙ was in
          cc)
      | inr input ↦ laid.apart e input.0 count low input.1 in_range (sym input.2 ∙ at)
    ])

-- ---- the elements of an item

-- a reader's place
pub slot_between : (w : Wiring) (from at k e : ℕ) → reader_of w.layout k ≡ e → from ≤ place_of w.plan e → place_of w.plan e < at → IsBetween w from at k
slot_between w from at k e by after before = (omega (arith, after, ap (place_of w.plan) by), omega (arith, before, ap (place_of w.plan) by))

-- a slot that isn't read before isn't out
pub between_home : {C P : Type 0} (w : Wiring) (e from at k : ℕ) (me : Me (Slot C P) View) → IsEmptying w e from at me → top_of w.plan (reader_of w.layout k) ≡ e → at ≤ place_of w.plan (reader_of w.layout k) → has k (slots_in me.1) ≡ false
between_home w e from at k me emptying top after = not_has k (slots_in me.1) (λ h.
    elim (emptying.each k h) [
      | inl outside ↦ outside.1 top
      | inr between ↦ absurd (omega (arith, between.1, after))
    ])

-- the places are the plan's
pub same_place : {C : Type 0} {b : Behaviour C} {w : Wiring} → IsWired b w → (e u : ℕ) → e < w.plan.elements → u < w.plan.elements → place_of w.plan u ≡ place_of w.plan e → u ≡ e
same_place {w = w} wired e u low_e low_u is = sym (wired.axioms.at_place u low_u) ∙ ap (λ (j : ℕ). get_at w.plan j) is ∙ wired.axioms.at_place e low_e
  where
    get_at : PlanView → ℕ → ℕ
    get_at p j = get_or p.listing j 0

-- after the first slot of the element at a place, and its inputs
pub emptied_one : {C C' P : Type 0} {b : Behaviour C'} {w : Wiring} → IsWired b w → (e from at u : ℕ) (me mid new : Me (Slot C P) View) (y : Slot C P) → u < w.plan.elements → place_of w.plan u ≡ at → from ≤ at → IsEmptying w e from at me
    → mid ≡ (take_view (first_of w.layout u) me.0, (first_of w.layout u, y) ∷ me.1) → HasInputs w.layout u (length (b.reads u)) mid new → IsEmptying w e from (at + 1) new
emptied_one {C} {C'} {P} {b} {w} wired e from at u me mid new y low place after emptying is inputs =
    let slots = slots_after (first_of w.layout u) me mid y is in
    record {
      each = λ k h. elim (inputs.each k h) [
        | inl was ↦ elim (has_either k (first_of w.layout u) (slots_in me.1) (ap (has k) (sym slots) ∙ was)) [
          | inl here ↦ inr (slot_between w from (at + 1) k u (ap (reader_of w.layout) here ∙ first_reader wired.laid_out u low) (omega (arith, place, after)) (omega (arith, place)))
          | inr later ↦ elim (emptying.each k later) [
            | inl outside ↦ inl outside
            | inr between ↦ inr (between.0, omega (arith, between.1))
          ]
        ]
        | inr input ↦ inr (slot_between w from (at + 1) k u (ap (reader_of w.layout) input.2 ∙ (wired.laid_out.inputs u input.0 low input.1).2) (omega (arith, place, after)) (omega (arith, place)))
      ];
      outside = λ k in_slots outside. inputs.kept k (ap (has k) slots ∙ has_later k (first_of w.layout u) (slots_in me.1) (emptying.outside k in_slots outside));
      between = λ k in_slots between. elim (cases_lt (place_of w.plan (reader_of w.layout k)) at) [
        | inl before ↦ inputs.kept k (ap (has k) slots ∙ has_later k (first_of w.layout u) (slots_in me.1) (emptying.between k in_slots (between.0, before)))
        | inr now ↦ (
            let by : reader_of w.layout k ≡ u = same_place wired u (reader_of w.layout k) low (wired.laid_out.read k in_slots) (omega (arith, now, between.1, place)) in
            elim (wired.laid_out.no_other k in_slots) [
              | inl first ↦ (
                  let at_first : k ≡ first_of w.layout u = first.0 ∙ ap (first_of w.layout) by in
                  inputs.kept k (ap (has k) slots ∙ ap (λ (j : ℕ). has j (first_of w.layout u ∷ slots_in me.1)) at_first ∙ has_here (first_of w.layout u) (slots_in me.1)))
              | inr input ↦ (
                  let at_input : k ≡ input_of w.layout u input.0 = input.2 ∙ ap (λ (j : ℕ). input_of w.layout j input.0) by in
                  ap (λ (j : ℕ). has j (slots_in new.1)) at_input ∙ inputs.inputs input.0 (subst (λ (j : ℕ). input.0 < length (b.reads j)) by input.1))
            ])
      ];
    }

-- the last element's inputs, and then its first slot
pub emptied_last : {C C' P : Type 0} {b : Behaviour C'} {w : Wiring} → IsWired b w → (e from first : ℕ) (me mid new : Me (Slot C P) View) (y : Slot C P) → EndsItem w.plan e → IsItemFrom w.plan e from → IsEmptying w e from (place_of w.plan e) me
    → HasInputs w.layout e (length (b.reads e)) me mid → first ≡ first_of w.layout e → new ≡ (take_view first mid.0, (first, y) ∷ mid.1) → IsEmptied w e new
emptied_last {C} {C'} {P} {b} {w} wired e from first me mid new y item start emptying inputs at is = record {
  own = λ k in_slots own. elim (eqb_tells (top_of w.plan (reader_of w.layout k)) e) [
    | inl same ↦ read k in_slots same.1
    | inr other ↦ ap (has k) slots ∙ has_later k first (slots_in mid.1) (inputs.kept k (emptying.outside k in_slots (own, other.1)))
  ];
  read = read;
}
  where
    slots : slots_in new.1 ≡ first ∷ slots_in mid.1
    slots = slots_after first mid new y is

    read : (k : ℕ) → k < slots_of w.layout → top_of w.plan (reader_of w.layout k) ≡ e → has k (slots_in new.1) ≡ true
    read k in_slots top =
        let low = wired.laid_out.read k in_slots in
        let stands = (start.each (reader_of w.layout k) low).0 top in
        elim (cases_lt (place_of w.plan (reader_of w.layout k)) (place_of w.plan e)) [
          | inl before ↦ ap (has k) slots ∙ has_later k first (slots_in mid.1) (inputs.kept k (emptying.between k in_slots (stands.0, before)))
          | inr now ↦ (
              let by : reader_of w.layout k ≡ e = same_place wired e (reader_of w.layout k) item.element low (omega (arith, now, stands.1)) in
              elim (wired.laid_out.no_other k in_slots) [
                | inl own ↦ (
                    let here : k ≡ first = own.0 ∙ ap (first_of w.layout) by ∙ sym at in
                    ap (has k) slots ∙ ap (λ (j : ℕ). has j (first ∷ slots_in mid.1)) here ∙ has_here first (slots_in mid.1))
                | inr input ↦ (
                    let there : k ≡ input_of w.layout e input.0 = input.2 ∙ ap (λ (j : ℕ). input_of w.layout j input.0) by in
                    ap (has k) slots ∙ has_later k first (slots_in mid.1) (ap (λ (j : ℕ). has j (slots_in mid.1)) there ∙ inputs.inputs input.0 (subst (λ (j : ℕ). input.0 < length (b.reads j)) by input.1)))
              ])
        ]

-- the last element's first slot isn't out yet
pub last_home : {C C' P : Type 0} {b : Behaviour C'} {w : Wiring} → IsWired b w → (e from first : ℕ) (me mid : Me (Slot C P) View) → EndsItem w.plan e → IsEmptying w e from (place_of w.plan e) me → HasInputs w.layout e (length (b.reads e)) me mid → first ≡ first_of w.layout e
    → has first (slots_in mid.1) ≡ false
last_home {w = w} wired e from first me mid item emptying inputs at = not_has first (slots_in mid.1) (λ h.
    elim (inputs.each first h) [
      | inl was ↦ absurd (
          let by : reader_of w.layout first ≡ e = ap (reader_of w.layout) at ∙ first_reader wired.laid_out e item.element in
          let home = between_home w e from (place_of w.plan e) first me emptying (ap (top_of w.plan) by ∙ item.outermost) (omega (arith, ap (place_of w.plan) by)) in
          cc)
      | inr input ↦ wired.laid_out.further e input.0 e item.element input.1 item.element (sym input.2 ∙ at)
    ])

-- the first slots of two elements are two
pub firsts_apart : {C : Type 0} {b : Behaviour C} {n : ℕ} {l : LayoutView} → IsLaidOut b n l → (e u : ℕ) → e < n → u < n → u ≢ e → first_of l u ≢ first_of l e
firsts_apart {l = l} laid e u low_e low_u apart q = apart (sym (first_in laid u low_u).1 ∙ ap (owner_of l) q ∙ (first_in laid e low_e).1)

-- once an element's first slot was taken its inputs are still at home
pub inputs_home : {C P : Type 0} (w : Wiring) (e from at u k first : ℕ) (me new : Me (Slot C P) View) (y : Slot C P) → IsEmptying w e from at me → new ≡ (take_view first me.0, (first, y) ∷ me.1) → first ≡ first_of w.layout u → reader_of w.layout k ≡ u → k ≢ first_of w.layout u → top_of w.plan u ≡ e → at ≤ place_of w.plan u
    → has k (slots_in new.1) ≡ false
inputs_home w e from at u k first me new y emptying is first_is by other top after = not_has k (slots_in new.1) (λ h.
    elim (has_either k first (slots_in me.1) (ap (has k) (sym (slots_after first me new y is)) ∙ h)) [
      | inl here ↦ other (here ∙ first_is)
      | inr later ↦ absurd (
          let home = between_home w e from at k me emptying (ap (top_of w.plan) by ∙ top) (omega (arith, after, ap (place_of w.plan) by)) in
          cc)
    ])

-- ---- the slots of the last element that other items read

-- of the slots from one on just those are carried
pub record ArePut {C P : Type 0} (w : Wiring) (e slot : ℕ) (me : Me (Slot C P) View) : Type 0 where
  pub each : (k : ℕ) → has k (slots_in me.1) ≡ true → IsOutside w e k × (slot ≤ k)
  pub every : (k : ℕ) → slot ≤ k → k < first_of w.layout (e + 1) → top_of w.plan (reader_of w.layout k) ≢ e → has k (slots_in me.1) ≡ true

pub put_none : {C P : Type 0} (w : Wiring) (e slot : ℕ) (me : Me (Slot C P) View) → me.1 ≡ [] → first_of w.layout (e + 1) ≤ slot → ArePut w e slot me
put_none {C} {P} w e slot me none end = record {
  each = λ k h. absurd (let empty : has k (slots_in me.1) ≡ false = ap (λ (xs : List (ℕ × Slot C P)). has k (slots_in xs)) none in cc);
  every = λ k from before. absurd (omega (arith, end, from, before));
}

pub put_home : {C P : Type 0} (w : Wiring) (e slot before : ℕ) (old me : Me (Slot C P) View) → ArePut w e slot me → HasTaken old me → before < slot → has before me.0.out ≡ false
put_home w e slot before old me put taken less = ap (has before) taken.out ∙ not_has before (slots_in me.1) (λ h. absurd (omega (arith, less, (put.each before h).1)))

pub put_one : {C P : Type 0} (w : Wiring) (e slot before : ℕ) (me new : Me (Slot C P) View) (y : Slot C P) → ArePut w e slot me → before + 1 ≡ slot → IsOutside w e before → new ≡ (take_view before me.0, (before, y) ∷ me.1) → ArePut w e before new
put_one {C} {P} w e slot before me new y put next outside is =
    let slots = slots_after before me new y is in
    record {
      each = λ k h. elim (has_either k before (slots_in me.1) (ap (has k) (sym slots) ∙ h)) [
        | inl here ↦ (subst (IsOutside w e) (sym here) outside, omega (arith, here))
        | inr later ↦ (let was = put.each k later in (was.0, omega (arith, was.1, next)))
      ];
      every = λ k from below other. elim (eqb_tells k before) [
        | inl same ↦ ap (has k) slots ∙ ap (λ (j : ℕ). has j (before ∷ slots_in me.1)) same.1 ∙ has_here before (slots_in me.1)
        | inr apart ↦ ap (has k) slots ∙ has_later k before (slots_in me.1) (put.every k (omega (arith, from, apart.1, next)) below other)
      ];
    }

pub put_passed : {C P : Type 0} (w : Wiring) (e slot before : ℕ) (me : Me (Slot C P) View) → ArePut w e slot me → before + 1 ≡ slot → top_of w.plan (reader_of w.layout before) ≡ e → ArePut w e before me
put_passed w e slot before me put next inside = record {
  each = λ k h. let was = put.each k h in (was.0, omega (arith, was.1, next));
  every = λ k from below other. elim (eqb_tells k before) [
    | inl same ↦ absurd (other (ap (λ (j : ℕ). top_of w.plan (reader_of w.layout j)) same.1 ∙ inside))
    | inr apart ↦ put.every k (omega (arith, from, apart.1, next)) below other
  ];
}

pub put_outside : {C C' P : Type 0} {b : Behaviour C'} {w : Wiring} → IsWired b w → (e slot : ℕ) (me : Me (Slot C P) View) → EndsItem w.plan e → slot ≡ first_of w.layout e + 1 → ArePut w e slot me → (at : ℕ) → IsEmptying w e at at me
put_outside {w = w} wired e slot me item is put at = record {
  each = λ k h. inl (put.each k h).0;
  outside = λ k in_slots outside.
      let own = wired.laid_out.no_more e k item.element in_slots outside.0 in
      elim (eqb_tells k (first_of w.layout e)) [
        | inl same ↦ absurd (outside.1 (ap (λ (j : ℕ). top_of w.plan (reader_of w.layout j)) same.1 ∙ ap (top_of w.plan) (first_reader wired.laid_out e item.element) ∙ item.outermost))
        | inr apart ↦ put.every k (omega (arith, own.0, apart.1, is)) own.1 outside.1
      ];
  between = λ k in_slots between. absurd (omega (arith, between.0, between.1));
}

-- of a list and one more
pub all_less : {X : Type 0} (P : X → Type 0) (xs : List X) (y : X) → All P (xs ++ y ∷ []) → All P xs × P y
all_less P xs y all = (
  λ k d low. subst P (get_or_append_left xs (y ∷ []) d k low) (all k d (omega (arith, low, length-append xs (y ∷ [])))),
  subst P (get_or-append-add xs (y ∷ []) 0 y) (all (length xs + 0) y (omega (arith, length-append xs (y ∷ [])))),
)
