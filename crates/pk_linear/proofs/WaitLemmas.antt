-- How an item's constraints are read.
use Rattle.std.proofs.Common.{◌≡◌, ◌≢◌, inl, inr, ◌<◌, ◌≤◌, ℕ, ◌+◌, Bool, List, [], ◌∷◌, ◌++◌, length, length-append, get_or, set, arith, sym, ap, subst, ◌∙◌, Contains}
use Rattle.std.proofs.lemmas.Bool.{cases_lt, cases_eq}
use Rattle.std.proofs.lemmas.List.{get_or_append_left, get_or_at, get_or_default, length-set, get_or-set_same, get_or-set_other}
use Rattle.std.proofs.lemmas.List.Elements.{Contains-get_or}
use Rattle.pk_plan.specs.Plans.{PlanView, Constrains, place_of, predecessors_of}
use Rattle.pk_plan.specs.Axioms.{Axioms}
use Rattle.pk_plan.specs.declared.components.Component.{Component}
use Rattle.pk_plan.proofs.PlanLemmas.{Of, head_within, same_head}
use Rattle.pk_linear.specs.Waits.{AreLasts, WaitsFor, WaitsNoMore, IsPlaced, IsReadTo}
use Rattle.pk_linear.proofs.StepLemmas.{last_within}

-- nothing was read
pub read_nothing : (p : PlanView) (placed : List Bool) (item : ℕ) → IsReadTo p placed item (record { place = place_of p item; read = 0 })
read_nothing p placed item = record {
  from = omega arith;
  read = λ place k from earlier in_range before. elim earlier [
    | inl at ↦ absurd (omega (arith, at, from))
    | inr at ↦ absurd (omega (arith, at.1))
  ];
}

-- some more of the element's predecessors hold the item up no more
pub read_further : (p : PlanView) (placed : List Bool) (item place read next : ℕ) (inputs : List ℕ) → inputs ≡ predecessors_of p (get_or p.listing place 0)
    → ((k : ℕ) → read ≤ k → k < next → k < length inputs → place_of p (get_or inputs k 0) < place_of p item → IsPlaced placed (get_or inputs k 0))
    → IsReadTo p placed item (record { place = place; read = read }) → IsReadTo p placed item (record { place = place; read = next })
read_further p placed item place read next inputs is passed before = record {
  from = before.from;
  read = λ place' k from earlier in_range lower. elim earlier [
    | inl at ↦ before.read place' k from (inl at) in_range lower
    | inr at ↦ elim (cases_lt k read) [
      | inl old ↦ before.read place' k from (inr (at.0, old)) in_range lower
      | inr new ↦
          let same : inputs ≡ predecessors_of p (get_or p.listing place' 0) = is ∙ ap (λ (n : ℕ). predecessors_of p (get_or p.listing n 0)) (sym at.0) in
          subst (λ (xs : List ℕ). IsPlaced placed (get_or xs k 0)) same
          (passed k new at.1 (subst (λ (xs : List ℕ). k < length xs) (sym same) in_range) (subst (λ (xs : List ℕ). place_of p (get_or xs k 0) < place_of p item) (sym same) lower))
    ]
  ];
}

-- all of them were read
pub read_past : (p : PlanView) (placed : List Bool) (item place next : ℕ) (inputs : List ℕ) → inputs ≡ predecessors_of p (get_or p.listing place 0) → length inputs ≤ next
    → IsReadTo p placed item (record { place = place; read = next }) → IsReadTo p placed item (record { place = place + 1; read = 0 })
read_past p placed item place next inputs is long before = record {
  from = (let from = before.from in omega (arith, from));
  read = λ place' k from earlier in_range lower. elim earlier [
    | inl at ↦ elim (cases_lt place' place) [
      | inl old ↦ before.read place' k from (inl old) in_range lower
      | inr here ↦
          let same : place' ≡ place = omega (arith, at, here) in
          let length_same : length inputs ≡ length (predecessors_of p (get_or p.listing place' 0)) = ap (λ (xs : List ℕ). length xs) is ∙ ap (λ (n : ℕ). length (predecessors_of p (get_or p.listing n 0))) (sym same) in
          before.read place' k from (inr (same, omega (arith, in_range, length_same, long))) in_range lower
    ]
    | inr at ↦ absurd (omega (arith, at.1))
  ];
}

-- the item's places were all read
pub read_all : (p : PlanView) (lasts : List ℕ) (placed : List Bool) (item place read : ℕ) → Axioms p → get_or lasts item 0 < place
    → IsReadTo p placed item (record { place = place; read = read }) → WaitsNoMore p lasts placed item
read_all p lasts placed item place read axioms past reading a waits =
    let b : ℕ = waits.0 in
    let constrains : Constrains p a b = waits.1 in
    let within = axioms.within a b constrains in
    let at : get_or p.listing (place_of p b) 0 ≡ b = axioms.at_place b within in
    let inputs : List ℕ = predecessors_of p (get_or p.listing (place_of p b) 0) in
    let has : Contains inputs a = subst (λ (x : ℕ). Contains (predecessors_of p x) a) (sym at) (axioms.to_predecessor a b constrains) in
    let k : ℕ = has.0 in
    let is : get_or inputs k 0 ≡ a = get_or_default inputs k 0 a has.1 ∙ has.2 in
    subst (IsPlaced placed) is (reading.read (place_of p b) k waits.2 (inl (omega (arith, waits.3, past))) has.1 (subst (λ (x : ℕ). place_of p x < place_of p item) (sym is) waits.4))

-- one of the predecessors at a place of the item
pub waits_at : (p : PlanView) (lasts : List ℕ) (item place k : ℕ) (inputs : List ℕ) → Axioms p → AreLasts p lasts → item < p.elements
    → inputs ≡ predecessors_of p (get_or p.listing place 0) → place_of p item ≤ place → place ≤ get_or lasts item 0 → k < length inputs
    → place_of p (get_or inputs k 0) < place_of p item → WaitsFor p lasts item (get_or inputs k 0)
waits_at p lasts item place k inputs axioms are within is from upto in_range lower =
    let last = last_within p lasts item axioms are within in
    let b : ℕ = get_or p.listing place 0 in
    let at : place_of p b ≡ place = axioms.place_at place (omega (arith, upto, last)) in
    (b, axioms.to_successor (get_or inputs k 0) b (subst (λ (xs : List ℕ). Contains xs (get_or inputs k 0)) is (Contains-get_or inputs k 0 in_range)), omega (arith, at, from), omega (arith, at, upto), lower)

-- the last places, where those of the first few components were written
abbrev none_at : Component
none_at = record { head = 0; exit = 0; first = 0; end = 0 }

abbrev nth : PlanView → ℕ → Component
nth p k = get_or p.components k none_at

pub record AreLastsSoFar (p : PlanView) (lasts : List ℕ) (count : ℕ) : Type 0 where
  pub length : length lasts ≡ p.elements
  pub heads : (k : ℕ) → k < count → get_or lasts (nth p k).head 0 ≡ (nth p k).end
  pub others : (e : ℕ) → e < p.elements → ((k : ℕ) → k < count → (nth p k).head ≢ e) → get_or lasts e 0 ≡ place_of p e

pub nth_of : (p : PlanView) (k : ℕ) → k < length p.components → Of p (nth p k)
nth_of p k in_range = Contains-get_or p.components k none_at in_range

pub lasts_more : (p : PlanView) (lasts : List ℕ) (i : ℕ) → Axioms p → i < length p.components → AreLastsSoFar p lasts i → AreLastsSoFar p (set lasts (nth p i).head (nth p i).end) (i + 1)
lasts_more p lasts i axioms in_range are = record {
  length = length-set lasts c.head c.end ∙ are.length;
  heads = λ k less. elim (cases_eq (nth p k).head c.head) [
    | inl same ↦
        let equal : nth p k ≡ c = same_head p (nth p k) c axioms (nth_of p k (omega (arith, less, in_range))) of same in
        let at : get_or (set lasts c.head c.end) (nth p k).head 0 ≡ get_or (set lasts c.head c.end) c.head 0 = ap (λ (n : ℕ). get_or (set lasts c.head c.end) n 0) same in
        at ∙ get_or-set_same lasts c.head c.end 0 head_in ∙ ap (λ (x : Component). x.end) (sym equal)
    | inr other ↦
        let apart : k ≢ i = (λ same. other (ap (λ (n : ℕ). (nth p n).head) same)) in
        get_or-set_other lasts c.head (nth p k).head c.end 0 other ∙ are.heads k (omega (arith, less, apart))
  ];
  others = λ e within none.
      get_or-set_other lasts c.head e c.end 0 (λ same. none i (omega arith) (sym same)) ∙ are.others e within (λ k less. none k (omega (arith, less)));
}
  where
    c : Component
    c = nth p i

    of : Of p c
    of = nth_of p i in_range

    head_in : c.head < length lasts
    head_in = let below = head_within p c axioms of in let long = are.length in omega (arith, below, long)

pub lasts_all : (p : PlanView) (lasts : List ℕ) (count : ℕ) → count ≡ length p.components → AreLastsSoFar p lasts count → AreLasts p lasts
lasts_all p lasts count all are = record {
  length = are.length;
  heads = λ c of.
      let is : nth p of.0 ≡ c = get_or_default p.components of.0 none_at c of.1 ∙ of.2 in
      subst (λ (x : Component). get_or lasts x.head 0 ≡ x.end) is (are.heads of.0 (omega (arith, of.1, all)));
  others = λ e within none. are.others e within (λ k less. none (nth p k) (nth_of p k (omega (arith, less, all))));
}

-- one element's place more
pub lasts_push : (p : PlanView) (old new : List ℕ) (n last : ℕ) → (length old ≡ n) × ((k : ℕ) → k < n → get_or old k 0 ≡ place_of p k)
    → new ≡ old ++ last ∷ [] → last ≡ place_of p n → (length new ≡ n + 1) × ((k : ℕ) → k < n + 1 → get_or new k 0 ≡ place_of p k)
lasts_push p old new n last so_far is place =
    let long : length old ≡ n = so_far.0 in (
      ap {B = ℕ} (λ (xs : List ℕ). length xs) is ∙ length-append old (last ∷ []) ∙ ap (λ (m : ℕ). m + 1) long,
      λ k less. ap (λ (xs : List ℕ). get_or xs k 0) is ∙ elim (cases_lt k n) [
        | inl earlier ↦ get_or_append_left old (last ∷ []) 0 k (omega (arith, earlier, long)) ∙ so_far.1 k earlier
        | inr later ↦
            let same : n ≡ k = omega (arith, less, later) in
            get_or_at old last [] 0 k (long ∙ same) ∙ place ∙ ap (place_of p) same
      ],
    )
