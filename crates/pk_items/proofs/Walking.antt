-- The last elements of items, by one walk over the listing.
use Rattle.std.proofs.Common.{◌≡◌, ◌≢◌, ℕ, ◌+◌, ◌<◌, ◌≤◌, ◌⊎◌, inl, inr, List, length, get_or, max, true, refl, ap, sym, subst, ◌∙◌, arith, get_or-set_same, get_or-set_other}
use lib.ListN.{set}
use Rattle.std.proofs.lemmas.Bool.{cases_lt}
use Rattle.std.proofs.lemmas.Bool.Decides.{eqb_tells}
use Rattle.std.proofs.lemmas.List.{get_or_default, length-set, get_or-replicate, length-replicate}
use Rattle.std.proofs.Math.ListN.{replicate}
use Rattle.pk_plan.specs.declared.components.Component.{Component}
use Rattle.pk_plan.specs.Plans.{PlanView, place_of, is_inside}
use Rattle.pk_plan.specs.Axioms.{Axioms}
use Rattle.pk_plan.proofs.PlanLemmas.{Of, first_before_end, end_within}
use Rattle.pk_items.specs.Items.{top_of, last_place}
use Rattle.pk_items.specs.Tops.{AreTops, Stretches, AreEnds}
use Rattle.pk_items.proofs.Outermost.{Found, alone, within, found}
use Rattle.pk_items.proofs.Numbers.{between, is_between, max_first, max_second, max_above}

-- ---- where components end

-- the ends of the first so many components
pub record AreEndsBelow (p : PlanView) (k : ℕ) (ends : List ℕ) : Type 0 where
  pub long : length ends ≡ p.elements
  pub last : (c : Component) (of : Of p c) → of.0 < k → c.end ≤ get_or ends c.first 0
  pub some : (at : ℕ) → at < p.elements → (get_or ends at 0 ≡ 0) ⊎ Stretches p at (get_or ends at 0)

pub no_ends : (p : PlanView) (ends : List ℕ) → ends ≡ replicate p.elements 0 → AreEndsBelow p 0 ends
no_ends p ends is = record {
  long = ap (λ (xs : List ℕ). length xs) is ∙ length-replicate {A = ℕ} p.elements 0;
  last = λ c of low. absurd (omega (arith, low));
  some = λ at low. inl (ap (λ (xs : List ℕ). get_or xs at 0) is ∙ get_or-replicate p.elements at 0 0 low);
}

one_of : (m n : ℕ) → (max m n ≡ m) ⊎ (max m n ≡ n)
one_of m n = elim (cases_lt m n) [
  | inl less ↦ inr (max_second m n (omega (arith, less)))
  | inr most ↦ inl (max_first m n most)
]

pub one_end : (p : PlanView) → Axioms p → (k m : ℕ) (c : Component) (ends : List ℕ) → (of : Of p c) → of.0 ≡ k → m ≡ max (get_or ends c.first 0) c.end → AreEndsBelow p k ends → AreEndsBelow p (k + 1) (set ends c.first m)
one_end p axioms k m c ends of k_is is before = record {
  long = length-set ends c.first m ∙ before.long;
  last = λ d of_d low. elim (eqb_tells d.first c.first) [
    | inl same ↦
        let at = at_first d.first same.1 in
        let old : d.end ≤ max (get_or ends c.first 0) c.end = elim (cases_lt of_d.0 k) [
          | inl less ↦ (let o = before.last d of_d less in let q = ap (λ (n : ℕ). get_or ends n 0) same.1 in let u = max_above (get_or ends c.first 0) c.end in omega (arith, o, q, u.0))
          | inr more ↦ (
              let eq : of_d.0 ≡ of.0 = omega (arith, more, low, k_is) in
              let z : d ≡ c = sym of_d.2 ∙ get_or_default p.components of_d.0 d c of_d.1 ∙ ap (λ (n : ℕ). get_or p.components n c) eq ∙ of.2 in
              let e = ap (λ (b : Component). b.end) z in
              let u = max_above (get_or ends c.first 0) c.end in omega (arith, e, u.1))
        ] in
        omega (arith, at, is, old)
    | inr other ↦ elim (cases_lt of_d.0 k) [
      | inl less ↦ (let o = before.last d of_d less in let q = get_or-set_other ends c.first d.first m 0 other.1 in omega (arith, o, q))
      | inr more ↦ absurd (
          let eq : of_d.0 ≡ of.0 = omega (arith, more, low, k_is) in
          let z : d ≡ c = sym of_d.2 ∙ get_or_default p.components of_d.0 d c of_d.1 ∙ ap (λ (n : ℕ). get_or p.components n c) eq ∙ of.2 in
          other.1 (ap (λ (b : Component). b.first) z))
    ]
  ];
  some = λ at low. elim (eqb_tells at c.first) [
    | inl same ↦
        let now : get_or (set ends c.first m) at 0 ≡ m = at_first at same.1 in
        subst (λ (n : ℕ). (n ≡ 0) ⊎ Stretches p at n) (sym now) (by_max at low same.1)
    | inr other ↦ subst (λ (n : ℕ). (n ≡ 0) ⊎ Stretches p at n) (sym (get_or-set_other ends c.first at m 0 other.1)) (before.some at low)
  ];
}
  where
    in_range : c.first < length ends
    in_range = let f = first_before_end p c axioms of in let e = end_within p c axioms of in omega (arith, f, e, before.long)

    at_first : (at : ℕ) → at ≡ c.first → get_or (set ends c.first m) at 0 ≡ m
    at_first at same = ap (λ (n : ℕ). get_or (set ends c.first m) n 0) same ∙ get_or-set_same ends c.first m 0 in_range

    by_max : (at : ℕ) → at < p.elements → at ≡ c.first → (m ≡ 0) ⊎ Stretches p at m
    by_max at low same = elim (one_of (get_or ends c.first 0) c.end) [
      | inl old ↦ subst (λ (n : ℕ). (n ≡ 0) ⊎ Stretches p at n) (ap (λ (n : ℕ). get_or ends n 0) same ∙ sym old ∙ sym is) (before.some at low)
      | inr new ↦ inr (record { component = c; of = of; first = sym same; end = sym new ∙ sym is })
    ]

pub all_ends : (p : PlanView) (k : ℕ) (ends : List ℕ) → length p.components ≤ k → AreEndsBelow p k ends → AreEnds p ends
all_ends p k ends all below = record {
  long = below.long;
  last = λ c of. below.last c of (omega (arith, of.1, all));
  some = below.some;
}

-- ---- the walk

-- where the components end that begin before the place, and the last elements of the items of what between there
pub record WalkedTo (p : PlanView) (place until : ℕ) (tops : List ℕ) : Type 0 where
  pub long : length tops ≡ p.elements
  pub last : (c : Component) → Of p c → c.first < place → c.end ≤ until
  pub some : (until ≡ 0) ⊎ ((from : ℕ) × (from < place) × Stretches p from until)
  pub each : (e : ℕ) → e < p.elements → place_of p e < place → get_or tops e 0 ≡ top_of p e

pub none_walked : (p : PlanView) (tops : List ℕ) → tops ≡ replicate p.elements 0 → WalkedTo p 0 0 tops
none_walked p tops is = record {
  long = ap (λ (xs : List ℕ). length xs) is ∙ length-replicate {A = ℕ} p.elements 0;
  last = λ c of low. absurd (omega (arith, low));
  some = inl refl;
  each = λ e low before. absurd (omega (arith, before));
}

-- the components that begin up to the place end here at the latest
pub record Until (p : PlanView) (place until : ℕ) : Type 0 where
  pub last : (c : Component) → Of p c → c.first ≤ place → c.end ≤ until
  pub some : (until ≡ 0) ⊎ ((from : ℕ) × (from ≤ place) × Stretches p from until)

pub until_at : (p : PlanView) (place until next : ℕ) (ends tops : List ℕ) → AreEnds p ends → WalkedTo p place until tops → place < p.elements → next ≡ max until (get_or ends place 0) → Until p place next
until_at p place until next ends tops are walked low is = record {
  last = λ c of from.
      let u = max_above until (get_or ends place 0) in
      elim (cases_lt c.first place) [
        | inl less ↦ (let l = walked.last c of less in omega (arith, l, u.0, is))
        | inr more ↦ (
            let at : c.first ≡ place = omega (arith, from, more) in
            let l = are.last c of in let q = ap (λ (n : ℕ). get_or ends n 0) at in omega (arith, l, q, u.1, is))
      ];
  some = elim (one_of until (get_or ends place 0)) [
    | inl old ↦ subst (λ (n : ℕ). (n ≡ 0) ⊎ ((from : ℕ) × (from ≤ place) × Stretches p from n)) (sym (is ∙ old)) (elim walked.some [
      | inl none ↦ inl none
      | inr one ↦ inr (one.0, (let l = one.1 in omega (arith, l)), one.2)
    ])
    | inr new ↦ subst (λ (n : ℕ). (n ≡ 0) ⊎ ((from : ℕ) × (from ≤ place) × Stretches p from n)) (sym (is ∙ new)) (elim (are.some place low) [
      | inl none ↦ inl none
      | inr one ↦ inr (place, omega arith, one)
    ])
  ];
}

pub until_low : (p : PlanView) → Axioms p → (place until : ℕ) → place < p.elements → Until p place until → max place until < p.elements
until_low p axioms place until low u = elim u.some [
  | inl none ↦ small place until p.elements low (omega (arith, none, low))
  | inr one ↦ small place until p.elements low (let s = one.2 in let e = end_within p s.component axioms s.of in omega (arith, e, s.end))
]
  where
    small : (m n k : ℕ) → m < k → n < k → max m n < k
    small m n k h i = grind (arith)

top_here : (p : PlanView) → Axioms p → (e until : ℕ) → Until p (place_of p e) until → last_place p e p.components ≡ max (place_of p e) until
top_here p axioms e until u = by (found p e p.components)
  where
    by : Found p e p.components → last_place p e p.components ≡ max (place_of p e) until
    by (alone q none) = q ∙ sym (max_first (place_of p e) until (elim u.some [
      | inl nothing ↦ omega (arith, nothing)
      | inr one ↦
          let s = one.2 in
          elim (cases_lt (place_of p e) until) [
            | inl less ↦ absurd (
                let n = none s.component s.of in
                let i : is_inside p s.component e ≡ true = is_between s.component.first (place_of p e) s.component.end (let l = one.1 in omega (arith, l, s.first)) (omega (arith, less, s.end)) in cc)
            | inr most ↦ omega (arith, most)
          ]
    ]))
    by (within c of i q most) =
        let at = between c.first (place_of p e) c.end i in
        let up = u.last c of at.0 in
        let is : c.end ≡ until = elim u.some [
          | inl nothing ↦ absurd (omega (arith, nothing, up, at.1))
          | inr one ↦ (
              let s = one.2 in
              let m = most s.component s.of (is_between s.component.first (place_of p e) s.component.end (let l = one.1 in omega (arith, l, s.first)) (omega (arith, s.end, up, at.1))) in
              omega (arith, m, s.end, up))
        ] in
        q ∙ is ∙ sym (max_second (place_of p e) until (omega (arith, is, at.1)))

pub walk_on : (p : PlanView) → Axioms p → (place until next e top : ℕ) (tops : List ℕ) → place < p.elements → e ≡ get_or p.listing place 0 → top ≡ get_or p.listing (max place next) 0 → Until p place next → WalkedTo p place until tops → WalkedTo p (place + 1) next (set tops e top)
walk_on p axioms place until next e top tops low e_is top_is u walked = record {
  long = length-set tops e top ∙ walked.long;
  last = λ c of before. u.last c of (omega (arith, before));
  some = elim u.some [
    | inl none ↦ inl none
    | inr one ↦ inr (one.0, (let l = one.1 in omega (arith, l)), one.2)
  ];
  each = λ v v_low before. elim (eqb_tells v e) [
    | inl same ↦ ap (λ (n : ℕ). get_or (set tops e top) n 0) same.1 ∙ get_or-set_same tops e top 0 in_range ∙ here ∙ ap (top_of p) (sym same.1)
    | inr other ↦
        let apart : place_of p v ≢ place = λ q. other.1 (sym (axioms.at_place v v_low) ∙ ap (λ (n : ℕ). get_or p.listing n 0) q ∙ sym e_is) in
        get_or-set_other tops e v top 0 other.1 ∙ walked.each v v_low (omega (arith, before, apart))
  ];
}
  where
    e_low : e < p.elements
    e_low = subst (λ (n : ℕ). n < p.elements) (sym e_is) (axioms.element place low)

    in_range : e < length tops
    in_range = let l = walked.long in let z = e_low in omega (arith, l, z)

    place_is : place_of p e ≡ place
    place_is = ap (place_of p) e_is ∙ axioms.place_at place low

    here : top ≡ top_of p e
    here = top_is ∙ ap (λ (n : ℕ). get_or p.listing n 0) (sym (top_here p axioms e next (subst (λ (n : ℕ). Until p n next) (sym place_is) u) ∙ ap (λ (n : ℕ). max n next) place_is))

pub all_walked : (p : PlanView) → Axioms p → (place until : ℕ) (tops : List ℕ) → p.elements ≤ place → WalkedTo p place until tops → AreTops p tops
all_walked p axioms place until tops all walked = record {
  long = walked.long;
  each = λ e low. walked.each e low (let l = axioms.place e low in omega (arith, l, all));
}
