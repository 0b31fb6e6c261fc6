-- How the slots of an element are written.
use Rattle.std.proofs.Common.{◌≡◌, ℕ, ◌+◌, ◌<◌, ◌≤◌, false, inl, inr, List, [], ◌∷◌, ◌++◌, map, length, drop, get_or, replicate, All, refl, sym, ap, subst, ◌∙◌, arith}
use Rattle.std.proofs.lemmas.Bool.Decides.{eqb_tells}
use Rattle.std.proofs.lemmas.List.Elements.{All-head, All-tail}
use Rattle.atomic_table.specs.Table.{Me}
use Rattle.pk_plan.specs.Shape.{has}
use Rattle.pk_layout.specs.Layouts.{first_of, owner_of}
use Rattle.pk_layout.specs.Wirings.{Wiring}
use Rattle.pk_words.specs.declared.slot.Slot.{Slot}
use Rattle.pk_words.specs.declared.view.View.{View}
use Rattle.pk_words.specs.Kinds.{HasCell, kind_of}
use Rattle.pk_words.specs.Tokens.{times}
use Rattle.pk_words.specs.Views.{AllRight, slots_in, take_view}
use Rattle.pk_words.specs.Told.{IsIdle}
use Rattle.pk_board.specs.Writing.{IsWriting}

-- one slot more is written
writes_one : {C P : Type 0} (w : Wiring) (e slot : ℕ) (c : C) (old : View) (me : Me (Slot C P) View) (y : Slot C P) → IsWriting w e c (slot + 1) old me → kind_of y ≡ HasCell c → owner_of w.layout slot ≡ e
    → IsWriting w e c slot old (take_view slot me.0, (slot, y) ∷ me.1)
writes_one w e slot c old me y h is own = record {
  rest = h.rest;
  out = ap (λ (ks : List ℕ). slot ∷ ks) h.out;
  right = ((is, own), h.right);
  every = λ k from below. elim (eqb_tells k slot) [
    | inl same ↦ rw same.0 refl
    | inr other ↦ rw other.0 (h.every k (omega (arith, from, other.1)) below)
  ];
  none_before = λ k before. elim (eqb_tells k slot) [
    | inl same ↦ absurd (omega (arith, before, same.1))
    | inr other ↦ rw other.0 (h.none_before k (omega (arith, before)))
  ];
}

-- nothing is written yet
pub writes_none : {C P : Type 0} (w : Wiring) (e from : ℕ) (c : C) (me : Me (Slot C P) View) → IsIdle me → first_of w.layout (e + 1) ≤ from → IsWriting w e c from me.0 me
writes_none {C} {P} w e from c me idle end = record {
  rest = refl;
  out = idle.1 ∙ sym (ap slots_in idle.0);
  right = subst (AllRight (λ k x. (kind_of x ≡ HasCell c) × (owner_of w.layout k ≡ e))) (sym idle.0) tt;
  every = λ k from_k below. absurd (omega (arith, end, from_k, below));
  none_before = λ k before. ap (λ (xs : List (ℕ × Slot C P)). has k (slots_in xs)) idle.0;
}

-- of copies of a cell, the last and the others
pub copies_less : {A B : Type 0} (f : A → B) (xs : List A) (y : A) (v : B) → map f (xs ++ y ∷ []) ≡ replicate (length (xs ++ y ∷ [])) v → (map f xs ≡ replicate (length xs) v) × (f y ≡ v)
copies_less f [] y v h = (refl, ap (λ zs. get_or zs 0 v) h)
copies_less {A} {B} f (x ∷ xs) y v h =
    let less = copies_less f xs y v (ap (drop 1) h) in
    (ap (λ (z : B). z ∷ map f xs) (ap (λ zs. get_or zs 0 v) h) ∙ ap (λ (zs : List B). v ∷ zs) less.0, less.1)

-- copies that are all equal to a cell
pub copies_are : {A B : Type 0} (f : A → B) (xs : List A) (v : B) → All (λ x. f x ≡ v) xs → map f xs ≡ replicate (length xs) v
copies_are f [] v h = refl
copies_are {A} {B} f (x ∷ xs) v h = ap (λ (z : B). z ∷ map f xs) (All-head (λ x. f x ≡ v) x xs h) ∙ ap (λ (zs : List B). v ∷ zs) (copies_are f xs v (All-tail (λ x. f x ≡ v) x xs h))

-- an element that was held still is
pub held_still : (e : ℕ) (old now : View) → (record now { out = old.out; fresh = old.fresh }) ≡ old → 0 < times e old.holds → 0 < times e now.holds
held_still e old now rest held = omega (arith, held, ap (λ (v : View). times e v.holds) rest)

-- the slot before is at home, and is written
pub home_before : {C P : Type 0} (w : Wiring) (e slot before : ℕ) (c : C) (old : View) (me : Me (Slot C P) View) → IsWriting w e c slot old me → before < slot → has before me.0.out ≡ false
home_before w e slot before c old me writing less = ap (has before) writing.out ∙ writing.none_before before less

pub writes_before : {C P : Type 0} (w : Wiring) (e slot before : ℕ) (c : C) (old : View) (me new : Me (Slot C P) View) (y : Slot C P) → IsWriting w e c slot old me → before + 1 ≡ slot → new ≡ (take_view before me.0, (before, y) ∷ me.1) → kind_of y ≡ HasCell c → owner_of w.layout before ≡ e
    → IsWriting w e c before old new
writes_before {C} {P} w e slot before c old me new y writing next is cell own =
    subst (λ (m : Me (Slot C P) View). IsWriting w e c before old m) (sym is) (writes_one w e before c old me y (subst (λ (k : ℕ). IsWriting w e c k old me) (sym next) writing) cell own)
