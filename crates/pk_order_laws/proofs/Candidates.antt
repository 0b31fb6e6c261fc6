-- What may be placed next.
use Rattle.std.proofs.Common.{◌≡◌, ◌⊎◌, ℕ, zero, suc, ◌+◌, ◌-◌, ◌<◌, ◌≤◌, List, [], ◌∷◌, get_or, sym, ap, subst, ◌∙◌, inl, inr, arith, Contains}
use Rattle.std.proofs.lemmas.Bool.{cases_eq, cases_lt}
use Rattle.pk_plan.specs.declared.components.Component.{Component}
use Rattle.pk_plan.specs.declared.places.Place.{Place}
use Rattle.pk_plan.specs.Plans.{PlanView, place_of}
use Rattle.pk_plan.specs.Axioms.{Axioms}
use Rattle.pk_plan.proofs.PlanLemmas.{Of, first_at, end_at, first_before_end, end_within, exit_within, head_within, same_place, constrains_from}
use Rattle.pk_linear.specs.Waits.{AreLasts}
use Rattle.pk_linear.specs.Steps.{Stands, IsOpen, IsFree, Follows, AreSteps}
use Rattle.pk_linear.proofs.ListLemmas.{contains_none, contains_here, contains_cases}
use Rattle.pk_linear.proofs.StepLemmas.{last_inside, placed_free}
use Rattle.pk_order_laws.proofs.Picking.{Picked, picked, least_of, below, below_has}
use Rattle.pk_order_laws.proofs.Told.{Told, told_less}
use Rattle.pk_order_laws.proofs.Telling.{told_stands, told_free, told_inside}

pub record Candidate (p : PlanView) (lasts : List ℕ) (places : List Place) (e : ℕ) : Type 0 where
  pub within : e < p.elements
  pub fresh : Stands places e → ⊥
  pub free : IsFree p lasts places e
  pub inside : (c : Component) → IsOpen p places c → Follows p c e

told_candidate : (p : PlanView) (lasts : List ℕ) (places : List Place) (e : ℕ) → Axioms p → Told (Candidate p lasts places e)
told_candidate p lasts places e axioms = elim (told_less e p.elements) [
  | inr never ↦ inr (λ c. never c.within)
  | inl within ↦ elim (told_stands places e) [
    | inl s ↦ inr (λ c. c.fresh s)
    | inr fresh ↦ elim (told_free p lasts places e axioms) [
      | inr never ↦ inr (λ c. never c.free)
      | inl free ↦ elim (told_inside p places e) [
        | inr never ↦ inr (λ c. never c.inside)
        | inl inside ↦ inl (record { within = within; fresh = fresh; free = free; inside = inside })
      ]
    ]
  ]
]

pub record LeastCandidate (p : PlanView) (lasts : List ℕ) (places : List Place) : Type 0 where
  pub element : ℕ
  pub is : Candidate p lasts places element
  pub least : (e : ℕ) → Candidate p lasts places e → element ≤ e

least_candidate : (p : PlanView) (lasts : List ℕ) (places : List Place) (e : ℕ) → Axioms p → Candidate p lasts places e → LeastCandidate p lasts places
least_candidate p lasts places e axioms c =
    let all : Picked (below p.elements) (Candidate p lasts places) = picked (below p.elements) (Candidate p lasts places) (λ v. told_candidate p lasts places v axioms) in
    let has : (v : ℕ) → Candidate p lasts places v → Contains all.list v = λ v k. all.has v (below_has p.elements v k.within) k in
    let m : (h : ℕ) × Contains all.list h × ((w : ℕ) → Contains all.list w → h ≤ w) = least_of all.list e (has e c) in
    record { element = m.0; is = all.holds m.0 m.1; least = λ v k. m.2 v (has v k) }

-- the first element of a stretch of the listing that isn't placed
record FirstLeft (p : PlanView) (places : List Place) (low high : ℕ) : Type 0 where
  at : ℕ
  from : low ≤ at
  before : at < high
  fresh : Stands places (get_or p.listing at 0) → ⊥
  earlier : (q : ℕ) → low ≤ q → q < at → Stands places (get_or p.listing q 0)

first_left : (p : PlanView) (places : List Place) (low k : ℕ) → ((q : ℕ) → low ≤ q → q < low + k → Stands places (get_or p.listing q 0)) ⊎ FirstLeft p places low (low + k)
first_left p places low zero = inl (λ q a b. absurd (omega (arith, a, b)))
first_left p places low (suc k) = elim (first_left p places low k) [
  | inl all ↦ elim (told_stands places (get_or p.listing (low + k) 0)) [
    | inl s ↦ inl (λ q a b. elim (cases_eq q (low + k)) [ inl e ↦ subst (λ (x : ℕ). Stands places (get_or p.listing x 0)) (sym e) s | inr o ↦ all q a (omega (arith, b, o)) ])
    | inr n ↦ inr (record { at = low + k; from = omega arith; before = omega arith; fresh = n; earlier = all })
  ]
  | inr f ↦ inr (record { at = f.at; from = f.from; before = (let b = f.before in omega (arith, b)); fresh = f.fresh; earlier = f.earlier })
]

-- the open components, the innermost first
abbrev pub Nested : List Component → Type 0
Nested [] = Unit {0}
Nested (c ∷ cs) = ((d : Component) → Contains cs d → (d.first < c.first) × (c.end < d.end)) × Nested cs

pub record Chain (p : PlanView) (places : List Place) (cs : List Component) : Type 0 where
  pub opens : (c : Component) → Contains cs c → IsOpen p places c
  pub every : (c : Component) → IsOpen p places c → Contains cs c
  pub nested : Nested cs

-- where nothing is open
candidate_outside : (p : PlanView) (lasts : List ℕ) (places : List Place) → Axioms p → Chain p places [] → ((e : ℕ) → e < p.elements → Stands places e) ⊎ ((e : ℕ) × Candidate p lasts places e)
candidate_outside p lasts places axioms chain = elim (first_left p places 0 p.elements) [
  | inl all ↦ inl (λ e within. subst (λ (x : ℕ). Stands places x) (axioms.at_place e within) (all (place_of p e) (omega arith) (let l = axioms.place e within in omega (arith, l))))
  | inr f ↦
      let at : f.at < p.elements = (let b = f.before in omega (arith, b)) in
      let is : place_of p (get_or p.listing f.at 0) ≡ f.at = axioms.place_at f.at at in
      inr (
        get_or p.listing f.at 0,
        record {
          within = axioms.element f.at at;
          fresh = f.fresh;
          free = λ a w.
              let a_in : a < p.elements = constrains_from p a w.0 axioms w.1 in
              subst (λ (x : ℕ). Stands places x) (axioms.at_place a a_in) (f.earlier (place_of p a) (omega arith) (let l : place_of p a < place_of p (get_or p.listing f.at 0) = w.4 in omega (arith, l, is)));
          inside = λ c o. absurd (contains_none (chain.every c o));
        },
      )
]

-- where a component is open, and none inside it
candidate_inside : (p : PlanView) (lasts : List ℕ) (places : List Place) (c : Component) (cs : List Component) → Axioms p → AreLasts p lasts → AreSteps p lasts places → Chain p places (c ∷ cs) → (e : ℕ) × Candidate p lasts places e
candidate_inside p lasts places c cs axioms are steps chain =
    let o : IsOpen p places c = chain.opens c (contains_here c cs) in
    let of : Of p c = o.component in
    let first : c.first ≡ place_of p c.head = first_at p c axioms of in
    let end : c.end ≡ place_of p c.exit = end_at p c axioms of in
    let order : c.first < c.end = first_before_end p c axioms of in
    let end_in : c.end < p.elements = end_within p c axioms of in
    let exit_is : get_or p.listing c.end 0 ≡ c.exit = ap (λ (x : ℕ). get_or p.listing x 0) end ∙ axioms.at_place c.exit (exit_within p c axioms of) in
    elim (first_left p places (c.first + 1) (c.end - c.first)) [
      | inl all ↦ absurd (o.exit (subst (λ (x : ℕ). Stands places x) exit_is (all c.end (omega (arith, order)) (omega (arith, order)))))
      | inr f ↦
          let from : c.first + 1 ≤ f.at = f.from in
          let upto : f.at ≤ c.end = (let b = f.before in omega (arith, b, order)) in
          let at : f.at < p.elements = omega (arith, upto, end_in) in
          let e : ℕ = get_or p.listing f.at 0 in
          let is : place_of p (get_or p.listing f.at 0) ≡ f.at = axioms.place_at f.at at in
          let within : get_or p.listing f.at 0 < p.elements = axioms.element f.at at in (
            get_or p.listing f.at 0,
            record {
              within = within;
              fresh = f.fresh;
              free = λ a w.
                  let a_in : a < p.elements = constrains_from p a w.0 axioms w.1 in
                  let l : place_of p a < place_of p (get_or p.listing f.at 0) = w.4 in
                  let back : get_or p.listing (place_of p a) 0 ≡ a = axioms.at_place a a_in in
                  elim (cases_lt c.first (place_of p a)) [
                    | inl inner ↦ subst (λ (x : ℕ). Stands places x) back (f.earlier (place_of p a) (omega (arith, inner)) (omega (arith, l, is)))
                    | inr outer ↦ elim (cases_eq (place_of p a) c.first) [
                      | inl same ↦ subst (λ (x : ℕ). Stands places x) (same_place p c.head a axioms (head_within p c axioms of) a_in (sym first ∙ sym same)) o.head
                      | inr other ↦
                          let last : get_or lasts (get_or p.listing f.at 0) 0 ≤ c.end = last_inside p lasts c (get_or p.listing f.at 0) axioms are of within (omega (arith, from, is)) (omega (arith, upto, is)) in
                          let head_last : get_or lasts c.head 0 ≡ c.end = are.heads c of in
                          let b_from : place_of p (get_or p.listing f.at 0) ≤ place_of p w.0 = w.2 in
                          let b_upto : place_of p w.0 ≤ get_or lasts (get_or p.listing f.at 0) 0 = w.3 in
                          placed_free p lasts places c.head steps o.head a (w.0, w.1, omega (arith, b_from, is, from, first), omega (arith, b_upto, last, head_last), omega (arith, outer, other, first))
                    ]
                  ];
              inside = λ d open_d. elim (contains_cases c d cs (chain.every d open_d)) [
                | inl same ↦ subst (λ (x : Component). Follows p x (get_or p.listing f.at 0)) same (omega (arith, from, is), omega (arith, upto, is))
                | inr more ↦ let n : (d.first < c.first) × (c.end < d.end) = chain.nested.0 d more in let n0 : d.first < c.first = n.0 in let n1 : c.end < d.end = n.1 in (omega (arith, from, is, n0), omega (arith, upto, is, n1))
              ];
            },
          )
    ]

pub next_candidate : (p : PlanView) (lasts : List ℕ) (places : List Place) (cs : List Component) → Axioms p → AreLasts p lasts → AreSteps p lasts places → Chain p places cs → ((e : ℕ) → e < p.elements → Stands places e) ⊎ LeastCandidate p lasts places
next_candidate p lasts places [] axioms are steps chain = elim (candidate_outside p lasts places axioms chain) [
  | inl all ↦ inl all
  | inr c ↦ inr (least_candidate p lasts places c.0 axioms c.1)
]
next_candidate p lasts places (c ∷ cs) axioms are steps chain = let k : (e : ℕ) × Candidate p lasts places e = candidate_inside p lasts places c cs axioms are steps chain in inr (least_candidate p lasts places k.0 axioms k.1)
