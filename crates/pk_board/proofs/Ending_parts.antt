-- What a board leaves that lets go of cells.
use Rattle.std.proofs.Common.{◌≡◌, ◌≢◌, ℕ, zero, suc, ◌+◌, ◌<◌, ◌≤◌, ◌⊎◌, List, [], ◌∷◌, ◌++◌, length, map, filter, take, get_or, cond, slice_get, All, Bool, true, false, refl, sym, ap, subst, ◌∙◌, inl, inr, arith, append-nil}
use Rattle.std.specs.List.{filter_map, range_with_len}
use Rattle.std.proofs.lemmas.Bool.{cases_lt}
use Rattle.std.proofs.lemmas.Bool.Decides.{eqb_tells}
use Rattle.std.proofs.lemmas.List.{get_or_default, map-append}
use Rattle.std.proofs.lemmas.List.Elements.{filter_more}
use Rattle.atomic_table.specs.Table.{Final, Seen}
use Rattle.pk_plan.specs.Axioms.{Axioms}
use Rattle.pk_plan.specs.Plans.{PlanView, end_of, place_of}
use Rattle.pk_plan.proofs.PlanLemmas.{same_place}
use Rattle.pk_iterate.specs.Behaviour.{Behaviour}
use Rattle.pk_iterate.specs.Ending.{result_cell, result_count}
use Rattle.pk_iterate.proofs.Lists.{map_more, reads_map}
use Rattle.pk_items.specs.Items.{top_of, EndsItem, points_in}
use Rattle.pk_items.specs.Tops.{AreTops}
use Rattle.pk_items.proofs.Members.{points_have}
use Rattle.pk_layout.specs.Layouts.{LayoutView, IsLaidOut, slots_of, first_of, owner_of}
use Rattle.pk_layout.specs.Wirings.{Wiring}
use Rattle.pk_words.specs.declared.slot.Slot.{Slot}
use Rattle.pk_words.specs.declared.view.View.{View}
use Rattle.pk_words.specs.Kinds.{Lean, HasValue, IsLeanBoard, kind_of}
use Rattle.pk_words.specs.Reads.{HasEnd}
use Rattle.pk_words.proofs.Sends.{has_get}
use Rattle.pk_words.proofs.Whole.{over_at_end}
use Rattle.pk_lean_words.proofs.Lean_ends.{lean_closes}
use Rattle.pk_board.specs.Calls.{IsOutcome}
use Rattle.pk_board.specs.Parts.{ends_item, items_of, part_in, AreMadeOf}

-- ---- which elements end items

pub ends_item_is : (p : PlanView) (e : ℕ) → EndsItem p e → ends_item p e ≡ true
ends_item_is p e item = elim (eqb_tells e (end_of p)) [
  | inl same ↦ absurd (item.not_end same.1)
  | inr other ↦ elim (eqb_tells (top_of p e) e) [
    | inl top ↦ rw (other.0, top.0) refl
    | inr apart ↦ absurd (apart.1 item.outermost)
  ]
]

item_by : (p : PlanView) (e last top : ℕ) → Axioms p → e < last → last + 1 ≡ p.elements → top ≡ top_of p e → top ≡ e → EndsItem p e
item_by p e last top axioms before end is same = record {
  element = omega (arith, before, end);
  not_end = λ q. absurd (omega (arith, q, before, end, axioms.counted));
  outermost = sym is ∙ same;
}

no_item : (p : PlanView) (e : ℕ) → (EndsItem p e → ⊥) → e < p.elements → ends_item p e ≡ false
no_item p e never low = elim (eqb_tells e (end_of p)) [
  | inl same ↦ rw same.0 refl
  | inr other ↦ elim (eqb_tells (top_of p e) e) [
    | inl top ↦ absurd (never (record { element = low; not_end = other.1; outermost = top.1 }))
    | inr apart ↦ rw (other.0, apart.0) refl
  ]
]

pub item_or_not : (p : PlanView) (e end : ℕ) (tops : List ℕ) → Axioms p → AreTops p tops → e < p.elements → end + 1 ≡ p.elements
    → ((e < end) × (get_or tops e 0 ≡ e) × EndsItem p e) ⊎ ((e < end → get_or tops e 0 ≡ e → ⊥) × (ends_item p e ≡ false))
item_or_not p e end tops axioms are low is = elim (cases_lt e end) [
  | inr after ↦ inr ((λ before same. absurd (omega (arith, after, before))), no_item p e (λ item. item.not_end (omega (arith, after, low, is, axioms.counted))) low)
  | inl before ↦ elim (eqb_tells (get_or tops e 0) e) [
    | inl same ↦ inl (before, same.1, item_by p e end (get_or tops e 0) axioms before is (are.each e low) same.1)
    | inr other ↦ inr ((λ early same. other.1 same), no_item p e (λ item. other.1 (are.each e low ∙ item.outermost)) low)
  ]
]

-- ---- one element of the listing more

pub listed_at : (p q : PlanView) (listing : List ℕ) (at : ℕ) → Axioms p → q ≡ p → listing ≡ q.listing → at < length listing
    → (at < p.elements) × (get_or listing at 0 ≡ get_or p.listing at 0) × (get_or listing at 0 < p.elements) × (place_of p (get_or listing at 0) ≡ at)
listed_at p q listing at axioms is listing_is before =
    let same : listing ≡ p.listing = listing_is ∙ ap (λ (r : PlanView). r.listing) is in
    let within : at < p.elements = omega (arith, before, ap length same, axioms.listed) in
    let e_is : get_or listing at 0 ≡ get_or p.listing at 0 = ap (λ (xs : List ℕ). get_or xs at 0) same in
    (within, e_is, subst (λ (j : ℕ). j < p.elements) (sym e_is) (axioms.element at within), ap (place_of p) e_is ∙ axioms.place_at at within)

pub made_one : {P : Type 0} (test : ℕ → Bool) (make : ℕ → P) (xs : List ℕ) (k : ℕ) (old new : List P) (y : P) → k < length xs → test (get_or xs k 0) ≡ true → new ≡ old ++ y ∷ [] → y ≡ make (get_or xs k 0) → old ≡ map make (filter test (take k xs)) → new ≡ map make (filter test (take (k + 1) xs))
made_one {P} test make xs k old new y in_range passes pushed is all =
    pushed ∙ ap (λ (ys : List P). ys ++ y ∷ []) all ∙ ap (λ (z : P). map make (filter test (take k xs)) ++ z ∷ []) is
    ∙ sym (map-append make (filter test (take k xs)) (get_or xs k 0 ∷ []))
    ∙ ap (λ (t : Bool). map make (filter test (take k xs) ++ cond t (get_or xs k 0 ∷ []) [])) (sym passes)
    ∙ ap (map make) (sym (filter_more test xs k 0 in_range))

pub made_none : {P : Type 0} (test : ℕ → Bool) (make : ℕ → P) (xs : List ℕ) (k : ℕ) (old : List P) → k < length xs → test (get_or xs k 0) ≡ false → old ≡ map make (filter test (take k xs)) → old ≡ map make (filter test (take (k + 1) xs))
made_none {P} test make xs k old in_range fails all =
    all ∙ ap (map make) (sym (append-nil (filter test (take k xs))) ∙ ap (λ (t : Bool). filter test (take k xs) ++ cond t (get_or xs k 0 ∷ []) []) (sym fails) ∙ sym (filter_more test xs k 0 in_range))

-- ---- the slots that were taken

pub slot_place : {C : Type 0} {b : Behaviour C} {p : PlanView} {l : LayoutView} → Axioms p → IsLaidOut b p.elements l → (e at k : ℕ) → e < p.elements → place_of p e ≡ at → k < slots_of l
    → ((first_of l e ≤ k) × (k < first_of l (e + 1)) × (place_of p (owner_of l k) ≡ at)) ⊎ (((k < first_of l e) ⊎ (first_of l (e + 1) ≤ k)) × (place_of p (owner_of l k) ≢ at))
slot_place {p = p} {l = l} axioms laid e at k low place in_slots = elim (eqb_tells (place_of p (owner_of l k)) at) [
  | inl same ↦ (
      let own : owner_of l k ≡ e = same_place p (owner_of l k) e axioms (laid.owned k in_slots) low (same.1 ∙ sym place) in
      let range = laid.no_more e k low in_slots own in
      inl (range.0, range.1, same.1))
  | inr other ↦ elim (cases_lt k (first_of l e)) [
    | inl less ↦ inr (inl less, other.1)
    | inr more ↦ elim (cases_lt k (first_of l (e + 1))) [
      | inl before ↦ absurd (other.1 (ap (place_of p) (laid.together e k low more before).1 ∙ place))
      | inr after ↦ inr (inr after, other.1)
    ]
  ]
]

-- ---- what is left

points_low : (p : PlanView) (j : ℕ) → Axioms p → All (λ u. u < p.elements) (points_in p j)
points_low p j axioms = λ k d low.
    let u = get_or (points_in p j) k 0 in
    let same : get_or (points_in p j) k d ≡ u = get_or_default (points_in p j) k d 0 low in
    let point = (points_have p j u (has_get (points_in p j) k low)).0 in
    subst (λ (v : ℕ). v < p.elements) (sym same) (omega (arith, point, axioms.counted))

pub parts_by : {C P : Type 0} (b : Behaviour C) (p : PlanView) (make : List ℕ → List C → P) (parts : List P) (cells : List C) → Axioms p → (has_end : HasEnd b p) → cells ≡ map (result_cell has_end.1) (range_with_len 0 p.elements) → AreMadeOf b p make parts
    → parts ≡ map (part_in p make cells) (items_of p)
parts_by {C} {P} b p make parts cells axioms has_end is made =
    made has_end.0 has_end.1 has_end.2 ∙ ap (λ (h : ℕ → P). map h (items_of p)) (λ i j. each j i)
  where
    f : ℕ → C
    f = result_cell has_end.1

    each : (j : ℕ) → make (points_in p j) (map (result_cell has_end.1) (points_in p j)) ≡ part_in p make cells j
    each j = ap (make (points_in p j)) (sym (ap (λ (cs : List C). filter_map (slice_get cs) (points_in p j)) is ∙ reads_map (result_cell has_end.1) p.elements (points_in p j) (points_low p j axioms)))

maps_agree : {X : Type 0} (f g : ℕ → X) (n : ℕ) → ((e : ℕ) → e < n → f e ≡ g e) → map f (range_with_len 0 n) ≡ map g (range_with_len 0 n)
maps_agree f g zero same = refl
maps_agree {X} f g (suc n) same =
    let next : n + 1 ≡ suc n = omega arith in
    subst (λ (m : ℕ). map f (range_with_len 0 m) ≡ map g (range_with_len 0 m)) next
    (sym (map_more f (map f (range_with_len 0 n)) n (f n) refl refl)
    ∙ ap (λ (x : X). map f (range_with_len 0 n) ++ x ∷ []) (same n (omega arith))
    ∙ map_more g (map f (range_with_len 0 n)) n (g n) (maps_agree f g n (λ e low. same e (omega (arith, low)))) refl)

-- the recursion's outcome is one, whatever the order
module _ {C P : Type 0} (b : Behaviour C) (w : Wiring) (lean : Lean C P) (id : ℕ) (v : View) (words : List ℕ) (slots : List (Slot C P)) (count : length slots ≡ slots_of w.layout) (saw : v.ended ≡ true) (f : Final (Seen (IsLeanBoard b w lean kind_of) id v) words slots) where
  pub is_outcome : (has_end : HasEnd b w.plan) → IsOutcome b w (record { cells = map (result_cell has_end.1) (range_with_len 0 w.plan.elements); runs = map (result_count has_end.1) (range_with_len 0 w.plan.elements) })
  is_outcome has_end order ends ordered = record {
    cells = maps_agree (result_cell has_end.1) (result_cell ends) w.plan.elements (λ e low.
        sym (over_at_end b w (HasValue kind_of) id v words slots count saw (f.0, (f.1.0.0, f.1.1), f.2, f.3, f.4) has_end.0 has_end.1 has_end.2 e low).0
        ∙ (over_at_end b w (HasValue kind_of) id v words slots count saw (f.0, (f.1.0.0, f.1.1), f.2, f.3, f.4) order ends ordered e low).0);
    runs = maps_agree (result_count has_end.1) (result_count ends) w.plan.elements (λ e low.
        sym (over_at_end b w (HasValue kind_of) id v words slots count saw (f.0, (f.1.0.0, f.1.1), f.2, f.3, f.4) has_end.0 has_end.1 has_end.2 e low).1
        ∙ (over_at_end b w (HasValue kind_of) id v words slots count saw (f.0, (f.1.0.0, f.1.1), f.2, f.3, f.4) order ends ordered e low).1);
    within = λ e low. (lean_closes b w lean kind_of id v words slots count saw f order ends ordered e low).within;
  }
