-- How far components reach, place by place.
use Rattle.std.proofs.Common.{◌≡◌, ◌<◌, ◌≤◌, ◌+◌, ℕ, refl, ap, sym, ◌∙◌, subst, Bool, true, ◌&&◌, List, [], ◌∷◌, ◌++◌, length, slice_index, slice_index_or, slice_set, replicate, Contains, inl, inr, arith, nat_lt, nat_le, length-set}
use Prim.Native.Nat.{max, min}
use Rattle.std.specs.List.{list_any}
use Rattle.std.proofs.lemmas.Bool.{cases_lt, cases_eq, and_from, and_parts, le-leb, lt-ltb, leb-true, ltb-true}
use Rattle.std.proofs.lemmas.List.{get_or_default, get_or_past, get_or-replicate, length-replicate, get_or-set_same, get_or-set_other, get_or_append_left, get_or_push, length_push}
use Rattle.std.proofs.lemmas.List.Folds.{Any-from_list_any, list_any_at}
use Rattle.pk_plan.specs.declared.components.Component.{Component}
use Rattle.pk_plan.specs.Plans.{PlanView, place_of, is_inside}
use Rattle.pk_plan.specs.Axioms.{Axioms}
use Rattle.pk_plan.proofs.PlanLemmas.{first_before_end, end_within}
use Rattle.pk_packs.specs.Ends.{IsEndOfOne, AreOwnEnds, AreEnds}
use Rattle.pk_packs.proofs.ComponentLemmas.{same_tests}

-- the furthest ends of the first so many components at the places where they begin
pub record AreOwnSoFar (p : PlanView) (number : ℕ) (ends : List ℕ) : Type 0 where
  pub size : length ends ≡ p.elements
  pub reached : (c : Component) (k : ℕ) → k < number → slice_index_or p.components k c ≡ c → c.end ≤ slice_index ends c.first
  pub only : (at : ℕ) → IsEndOfOne p at (slice_index ends at)

zeros : (n at : ℕ) → slice_index (replicate n 0) at ≡ 0
zeros n at = elim (cases_lt at n) [
  | inl less ↦ get_or-replicate n at 0 0 less
  | inr more ↦ get_or_past (replicate n 0) at 0 (subst (λ (m : ℕ). m ≤ at) (sym (length-replicate n 0)) more)
]

no_end : (p : PlanView) (at end : ℕ) → end ≡ 0 → IsEndOfOne p at end
no_end p at end e = λ h. absurd (omega (arith, e, h))

pub own_begin : (p : PlanView) (n : ℕ) (ends : List ℕ) → n ≡ p.elements → ends ≡ replicate n 0 → AreOwnSoFar p 0 ends
own_begin p n ends s e = record {
  size = ap (λ (xs : List ℕ). length xs) e ∙ length-replicate n 0 ∙ s;
  reached = λ c k h is. absurd (omega (arith, h));
  only = λ at. no_end p at (slice_index ends at) (ap (λ (xs : List ℕ). slice_index xs at) e ∙ zeros n at);
}

grows : (ends : List ℕ) (first new at : ℕ) → first < length ends → slice_index ends first ≤ new → slice_index ends at ≤ slice_index (slice_set ends first new) at
grows ends first new at h more = elim (cases_eq at first) [
  | inl same ↦
      let here : slice_index (slice_set ends first new) at ≡ new = ap (λ (k : ℕ). slice_index (slice_set ends first new) k) same ∙ get_or-set_same ends first new 0 h in
      let old : slice_index ends at ≡ slice_index ends first = ap (λ (k : ℕ). slice_index ends k) same in
      omega (arith, here, old, more)
  | inr other ↦
      let kept : slice_index (slice_set ends first new) at ≡ slice_index ends at = get_or-set_other ends first at new 0 other in
      omega (arith, kept)
]

-- the furthest of an end that there was and one more
of_two : (p : PlanView) (at old end new : ℕ) → new ≡ max old end → IsEndOfOne p at old → IsEndOfOne p at end → IsEndOfOne p at new
of_two p at old end new e one other = elim (cases_lt old end) [
  | inl less ↦ let is : new ≡ end = omega (arith, e, less) in subst (λ (n : ℕ). IsEndOfOne p at n) (sym is) other
  | inr more ↦ let is : new ≡ old = omega (arith, e, more) in subst (λ (n : ℕ). IsEndOfOne p at n) (sym is) one
]

-- a component begins at a place of the listing
pub begins_within : (p : PlanView) (number : ℕ) (it : Component) (ends : List ℕ) → Axioms p → number < length p.components
    → slice_index_or p.components number it ≡ it → AreOwnSoFar p number ends → it.first < length ends
begins_within p number it ends axioms h is before =
    let of : Contains p.components it = (number, h, is) in
    let from = first_before_end p it axioms of in
    let end = end_within p it axioms of in
    let size = before.size in
    omega (arith, from, end, size)

pub own_next : (p : PlanView) (number : ℕ) (it : Component) (ends : List ℕ) (old new : ℕ) → Axioms p → number < length p.components
    → slice_index_or p.components number it ≡ it → old ≡ slice_index_or ends it.first old → new ≡ max old it.end
    → AreOwnSoFar p number ends → AreOwnSoFar p (number + 1) (slice_set ends it.first new)
own_next p number it ends old new axioms h is was furthest before =
    let of : Contains p.components it = (number, h, is) in
    let inside : it.first < length ends = begins_within p number it ends axioms h is before in
    let e : new ≡ max (slice_index ends it.first) it.end = furthest ∙ ap (λ (n : ℕ). max n it.end) (was ∙ get_or_default ends it.first old 0 inside) in
    let here : slice_index (slice_set ends it.first new) it.first ≡ new = get_or-set_same ends it.first new 0 inside in
    record {
      size = length-set ends it.first new ∙ before.size;
      reached = λ c k less is_c. elim (cases_eq k number) [
        | inl same ↦
            let equal : it ≡ c = sym is ∙ get_or_default p.components number it c h ∙ ap (λ (n : ℕ). slice_index_or p.components n c) (sym same) ∙ is_c in
            subst (λ (d : Component). d.end ≤ slice_index (slice_set ends it.first new) d.first) equal (omega (arith, here, e))
        | inr other ↦
            let earlier = before.reached c k (omega (arith, less, other)) is_c in
            let more = grows ends it.first new c.first inside (omega (arith, e)) in
            omega (arith, earlier, more)
      ];
      only = λ at. elim (cases_eq at it.first) [
        | inl same ↦
            subst (λ (k : ℕ). IsEndOfOne p k (slice_index (slice_set ends it.first new) k)) (sym same)
            (subst (λ (n : ℕ). IsEndOfOne p it.first n) (sym here)
            (of_two p it.first (slice_index ends it.first) it.end new e (before.only it.first) (λ pos. (it, of, omega arith, refl))))
        | inr other ↦
            subst (λ (n : ℕ). IsEndOfOne p at n) (sym (get_or-set_other ends it.first at new 0 other)) (before.only at)
      ];
    }

pub own_end : (p : PlanView) (number : ℕ) (ends : List ℕ) → length p.components ≤ number → AreOwnSoFar p number ends → AreOwnEnds p ends
own_end p number ends h before = record {
  size = before.size;
  reached = λ c of. before.reached c of.0 (let k = of.1 in omega (arith, k, h)) of.2;
  only = before.only;
}

-- those of the first so many places, and the furthest of these
pub record AreEndsSoFar (p : PlanView) (number furthest : ℕ) (ends : List ℕ) : Type 0 where
  pub size : length ends ≡ number
  pub reached : (at : ℕ) (c : Component) → at < number → Contains p.components c → c.first ≤ at → c.end ≤ slice_index ends at
  pub only : (at : ℕ) → IsEndOfOne p at (slice_index ends at)
  pub furthest_reached : (c : Component) → Contains p.components c → c.first < number → c.end ≤ furthest
  pub furthest_only : (at : ℕ) → number ≤ at + 1 → IsEndOfOne p at furthest

pub ends_begin : (p : PlanView) (ends : List ℕ) → ends ≡ [] → AreEndsSoFar p 0 0 ends
ends_begin p ends e = record {
  size = ap (λ (xs : List ℕ). length xs) e;
  reached = λ at c h of less. absurd (omega (arith, h));
  only = λ at. no_end p at (slice_index ends at) (ap (λ (xs : List ℕ). slice_index xs at) e);
  furthest_reached = λ c of h. absurd (omega (arith, h));
  furthest_only = λ at h. no_end p at 0 refl;
}

-- an end of one that begins at a place or before is one of those that begin at a later place or before
later : (p : PlanView) (at next end : ℕ) → at ≤ next → IsEndOfOne p at end → IsEndOfOne p next end
later p at next end h one = λ pos. let found = one pos in (found.0, found.1, (let less = found.2 in omega (arith, less, h)), found.3)

pub ends_next : (p : PlanView) (number furthest new : ℕ) (own ends : List ℕ) → AreOwnEnds p own
    → new ≡ max furthest (slice_index own number)
    → AreEndsSoFar p number furthest ends → AreEndsSoFar p (number + 1) new (ends ++ new ∷ [])
ends_next p number furthest new own ends are e before =
    let far : (c : Component) → Contains p.components c → c.first < number + 1 → c.end ≤ new = (
    λ c of h. elim (cases_lt c.first number) [
      | inl less ↦ let old = before.furthest_reached c of less in omega (arith, old, e)
      | inr more ↦
          let same : c.first ≡ number = omega (arith, more, h) in
          let own_end = are.reached c of in
          let there : slice_index own c.first ≡ slice_index own number = ap (λ (k : ℕ). slice_index own k) same in
          omega (arith, own_end, there, e)
    ]) in
    let one : (at : ℕ) → number + 1 ≤ at + 1 → IsEndOfOne p at new = (
    λ at h. of_two p at furthest (slice_index own number) new e (before.furthest_only at (omega (arith, h)))
    (later p number at (slice_index own number) (omega (arith, h)) (are.only number))) in
    let size = before.size in
    let last : slice_index (ends ++ new ∷ []) number ≡ new = get_or_push ends new 0 number size in
    record {
      size = length_push ends new ∙ ap (λ (n : ℕ). n + 1) size;
      reached = λ at c h of less. elim (cases_lt at number) [
        | inl early ↦
            let old = before.reached at c early of less in
            let same : slice_index (ends ++ new ∷ []) at ≡ slice_index ends at = get_or_append_left ends (new ∷ []) 0 at (omega (arith, early, size)) in
            omega (arith, old, same)
        | inr late ↦
            let same : at ≡ number = omega (arith, late, h) in
            let there : slice_index (ends ++ new ∷ []) at ≡ slice_index (ends ++ new ∷ []) number = ap (λ (k : ℕ). slice_index (ends ++ new ∷ []) k) same in
            let end = far c of (omega (arith, less, same)) in
            omega (arith, there, last, end)
      ];
      only = λ at. elim (cases_lt at number) [
        | inl early ↦
            subst (λ (n : ℕ). IsEndOfOne p at n) (sym (get_or_append_left ends (new ∷ []) 0 at (omega (arith, early, size)))) (before.only at)
        | inr late ↦ elim (cases_eq at number) [
          | inl same ↦
              subst (λ (k : ℕ). IsEndOfOne p k (slice_index (ends ++ new ∷ []) k)) (sym same)
              (subst (λ (n : ℕ). IsEndOfOne p number n) (sym last) (one number (omega arith)))
          | inr other ↦
              no_end p at (slice_index (ends ++ new ∷ []) at) (get_or_past (ends ++ new ∷ []) at 0 (let long = length_push ends new in omega (arith, late, other, long, size)))
        ]
      ];
      furthest_reached = far;
      furthest_only = one;
    }

pub ends_end : (p : PlanView) (number furthest : ℕ) (own ends : List ℕ) → AreOwnEnds p own → number ≡ length own → AreEndsSoFar p number furthest ends → AreEnds p ends
ends_end p number furthest own ends are e before =
    let size = are.size in
    record {
      size = before.size ∙ e ∙ size;
      reached = λ at c h of less. before.reached at c (omega (arith, h, e, size)) of less;
      only = before.only;
    }

-- a component holds both elements where the later place is before the furthest end at the earlier one
pub joined : (p : PlanView) (ends : List ℕ) (a b : ℕ) → Axioms p → AreEnds p ends → a < p.elements → b < p.elements
    → nat_lt (max (place_of p a) (place_of p b)) (slice_index ends (min (place_of p a) (place_of p b)))
    ≡ list_any (λ (c : Component). is_inside p c a && is_inside p c b) p.components
joined p ends a b axioms are a_in b_in =
    let one : ℕ = place_of p a in
    let other : ℕ = place_of p b in
    let test : Component → Bool = λ (c : Component). is_inside p c a && is_inside p c b in
    same_tests (nat_lt (max one other) (slice_index ends (min one other))) (list_any test p.components)
    (λ h.
    let before : max one other < slice_index ends (min one other) = ltb-true (max one other) (slice_index ends (min one other)) h in
    let found = are.only (min one other) (omega (arith, before)) in
    let c : Component = found.0 in
    let of : Contains p.components c = found.1 in
    let from : c.first ≤ min one other = found.2 in
    let end : c.end ≡ slice_index ends (min one other) = found.3 in
    let holds_a : is_inside p c a ≡ true =
    and_from (nat_le c.first one) (nat_lt one c.end) (le-leb c.first one (omega (arith, from))) (lt-ltb one c.end (omega (arith, before, end))) in
    let holds_b : is_inside p c b ≡ true =
    and_from (nat_le c.first other) (nat_lt other c.end) (le-leb c.first other (omega (arith, from))) (lt-ltb other c.end (omega (arith, before, end))) in
    list_any_at test p.components of.0 c of.1 (ap test of.2 ∙ and_from (is_inside p c a) (is_inside p c b) holds_a holds_b))
    (λ h.
    let found = Any-from_list_any test p.components h in
    let c : Component = found.1 in
    let of : Contains p.components c = (found.0, found.2, found.3) in
    let both = and_parts (is_inside p c a) (is_inside p c b) found.4 in
    let at_a = and_parts (nat_le c.first one) (nat_lt one c.end) both.0 in
    let at_b = and_parts (nat_le c.first other) (nat_lt other c.end) both.1 in
    let first_a : c.first ≤ one = leb-true c.first one at_a.0 in
    let first_b : c.first ≤ other = leb-true c.first other at_b.0 in
    let end_a : one < c.end = ltb-true one c.end at_a.1 in
    let end_b : other < c.end = ltb-true other c.end at_b.1 in
    let within_a = axioms.place a a_in in
    let reached = are.reached (min one other) c (omega (arith, within_a)) of (omega (arith, first_a, first_b)) in
    lt-ltb (max one other) (slice_index ends (min one other)) (omega (arith, end_a, end_b, reached)))
