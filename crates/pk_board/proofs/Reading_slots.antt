-- Who reads each slot.
use Rattle.std.proofs.Common.{◌≡◌, ℕ, zero, suc, ◌+◌, ◌<◌, List, [], ◌∷◌, length, set, get_or, refl, sym, ap, subst, ◌∙◌, inl, inr, arith, get_or-set_same, get_or-set_other}
use Rattle.std.proofs.lemmas.Bool.Decides.{eqb_tells}
use Rattle.pk_plan.specs.Plans.{PlanView}
use Rattle.pk_iterate.specs.Behaviour.{Behaviour}
use Rattle.pk_items.specs.Items.{top_of}
use Rattle.pk_layout.specs.Layouts.{LayoutView, IsLaidOut, slots_of, first_of, input_of, owner_of, reader_of}
use Rattle.pk_board.specs.Lean.{LeanView, AreReaders, HasItems}

-- an element reads its own first slot
pub first_in : {C : Type 0} {b : Behaviour C} {n : ℕ} {l : LayoutView} → IsLaidOut b n l → (e : ℕ) → e < n → (first_of l e < slots_of l) × (owner_of l (first_of l e) ≡ e)
first_in {l = l} laid e low = laid.together e (first_of l e) low (omega arith) (laid.rises e low)

pub first_reader : {C : Type 0} {b : Behaviour C} {n : ℕ} {l : LayoutView} → IsLaidOut b n l → (e : ℕ) → e < n → reader_of l (first_of l e) ≡ e
first_reader {l = l} laid e low =
    let own = first_in laid e low in
    elim (laid.no_other (first_of l e) own.0) [
      | inl first ↦ sym first.1 ∙ own.1
      | inr input ↦ absurd (laid.further (reader_of l (first_of l e)) input.0 e (laid.read (first_of l e) own.0) input.1 low (sym input.2))
    ]

-- the readers below e are right, and of e's own slots the first and those of the first inputs
pub record AreReadBelow (l : LayoutView) (e : ℕ) (readers : List ℕ) : Type 0 where
  pub long : length readers ≡ slots_of l
  pub right : (k : ℕ) → k < slots_of l → reader_of l k < e → get_or readers k 0 ≡ reader_of l k

pub record AreReadTo (l : LayoutView) (e count : ℕ) (readers : List ℕ) : Type 0 where
  pub below : AreReadBelow l e readers
  pub first : get_or readers (first_of l e) 0 ≡ e
  pub inputs : (place : ℕ) → place < count → get_or readers (input_of l e place) 0 ≡ e

pub read_none : (l : LayoutView) (readers : List ℕ) → length readers ≡ slots_of l → AreReadBelow l 0 readers
read_none l readers long = record { long = long; right = λ k low before. absurd (omega (arith, before)) }

-- a slot that e reads is written
written : (l : LayoutView) (e k : ℕ) (readers : List ℕ) → reader_of l k ≡ e → AreReadBelow l e readers → AreReadBelow l e (set readers k e)
written l e k readers mine below = record {
  long = set_long readers k e ∙ below.long;
  right = λ j low before. elim (eqb_tells j k) [
    | inl same ↦ absurd (let r : reader_of l j ≡ e = ap (reader_of l) same.1 ∙ mine in omega (arith, r, before))
    | inr other ↦ get_or-set_other readers k j e 0 other.1 ∙ below.right j low before
  ];
}
  where
    set_long : (ys : List ℕ) (i y : ℕ) → length (set ys i y) ≡ length ys
    set_long [] i y = refl
    set_long (z ∷ ys) zero y = refl
    set_long (z ∷ ys) (suc i) y = ap suc (set_long ys i y)

pub read_first : {C : Type 0} {b : Behaviour C} {n : ℕ} {l : LayoutView} → IsLaidOut b n l → (e : ℕ) (readers : List ℕ) → e < n → AreReadBelow l e readers → AreReadTo l e 0 (set readers (first_of l e) e)
read_first {l = l} laid e readers low below = record {
  below = written l e (first_of l e) readers (first_reader laid e low) below;
  first = get_or-set_same readers (first_of l e) e 0 (omega (arith, (first_in laid e low).0, below.long));
  inputs = λ place before. absurd (omega (arith, before));
}

pub read_input : {C : Type 0} {b : Behaviour C} {n : ℕ} {l : LayoutView} → IsLaidOut b n l → (e count : ℕ) (readers : List ℕ) → e < n → count < length (b.reads e) → AreReadTo l e count readers → AreReadTo l e (count + 1) (set readers (input_of l e count) e)
read_input {l = l} laid e count readers low in_range to =
    let input = laid.inputs e count low in_range in
    record {
      below = written l e (input_of l e count) readers input.2 to.below;
      first = get_or-set_other readers (input_of l e count) (first_of l e) e 0 (λ q. laid.further e count e low in_range low (sym q)) ∙ to.first;
      inputs = λ place before. elim (eqb_tells place count) [
        | inl same ↦ ap (λ (j : ℕ). get_or (set readers (input_of l e count) e) (input_of l e j) 0) same.1 ∙ get_or-set_same readers (input_of l e count) e 0 (omega (arith, input.0, to.below.long))
        | inr other ↦ (
            let less : place < count = omega (arith, before, other.1) in
            get_or-set_other readers (input_of l e count) (input_of l e place) e 0 (laid.apart e place count low less in_range) ∙ to.inputs place less)
      ];
    }

pub read_all_of : {C : Type 0} {b : Behaviour C} {n : ℕ} {l : LayoutView} → IsLaidOut b n l → (e count : ℕ) (readers : List ℕ) → e < n → count ≡ length (b.reads e) → AreReadTo l e count readers → AreReadBelow l (e + 1) readers
read_all_of {b = b} {l = l} laid e count readers low all to = record {
  long = to.below.long;
  right = λ k low_k before. elim (eqb_tells (reader_of l k) e) [
    | inr other ↦ to.below.right k low_k (omega (arith, before, other.1))
    | inl same ↦ elim (laid.no_other k low_k) [
      | inl first ↦ ap (λ (j : ℕ). get_or readers j 0) (first.0 ∙ ap (first_of l) same.1) ∙ to.first ∙ sym same.1
      | inr input ↦ (
          let at : k ≡ input_of l e input.0 = input.2 ∙ ap (λ (j : ℕ). input_of l j input.0) same.1 in
          let in_range : input.0 < length (b.reads e) = subst (λ (j : ℕ). input.0 < length (b.reads j)) same.1 input.1 in
          ap (λ (j : ℕ). get_or readers j 0) at ∙ to.inputs input.0 (omega (arith, in_range, all)) ∙ sym same.1)
    ]
  ];
}

pub read_whole : {C : Type 0} {b : Behaviour C} {n : ℕ} {l : LayoutView} → IsLaidOut b n l → (readers : List ℕ) → AreReadBelow l n readers → AreReaders l readers
read_whole laid readers below = record { long = below.long; each = λ k low. below.right k low (laid.read k low) }

-- the last element of the item that reads a slot
pub top_read : {C P : Type 0} {b : Behaviour C} {p : PlanView} {l : LayoutView} → IsLaidOut b p.elements l → (lean : LeanView P) (k : ℕ) → HasItems p l lean → k < slots_of l
    → (get_or lean.readers k 0 < length lean.tops) × (get_or lean.tops (get_or lean.readers k 0) 0 ≡ top_of p (reader_of l k))
top_read {p = p} {l = l} laid lean k items low =
    let reader = items.readers.each k low in
    let low_r = laid.read k low in
    (omega (arith, reader, low_r, items.tops.long), ap (λ (j : ℕ). get_or lean.tops j 0) reader ∙ items.tops.each (reader_of l k) low_r)
