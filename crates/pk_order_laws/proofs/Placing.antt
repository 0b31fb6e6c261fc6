-- A linear order of a plan, placed step by step.
use Rattle.std.proofs.Common.{◌≡◌, ◌≢◌, ℕ, zero, suc, ◌<◌, ◌≤◌, List, [], ◌∷◌, ◌++◌, length, map, get_or, refl, sym, ap, subst, ◌∙◌, inl, inr, arith, Contains}
use Rattle.std.specs.List.{range_with_len}
use Rattle.std.proofs.lemmas.List.{get_or-map}
use Rattle.std.proofs.lemmas.List.FromFn.{get_or-range_with_len, length-range_with_len, length-map-range_with_len}
use Rattle.pk_plan.specs.declared.components.Component.{Component}
use Rattle.pk_plan.specs.declared.places.Place.{Place}
use Rattle.pk_plan.specs.Plans.{PlanView, place_of}
use Rattle.pk_plan.specs.Axioms.{Axioms}
use Rattle.pk_plan.proofs.PlanLemmas.{Of, head_within, same_head}
use Rattle.pk_linear.specs.Waits.{AreLasts}
use Rattle.pk_linear.specs.Steps.{Stands, IsStep, AreSteps, Start, Then}
use Rattle.pk_linear.proofs.ListLemmas.{contains_none}
use Rattle.pk_order_laws.specs.Orders.{EveryPlanHasALinearOrder}
use Rattle.pk_linear.proofs.StepLemmas.{find_component, stands_more, stands_last}
use Rattle.pk_linear.proofs.SpellLemmas.{SpellsOrder, steps_spell}
use Rattle.pk_order_laws.proofs.Picking.{Picked, below, below_has}
use Rattle.pk_order_laws.proofs.Reaching.{others_of}
use Rattle.pk_order_laws.proofs.Candidates.{Chain, next_candidate}
use Rattle.pk_order_laws.proofs.Turning.{Turn, turn, placed_as}

-- the last place of an element's item
record LastPlace (p : PlanView) (e : ℕ) : Type 0 where
  last : ℕ
  head : (c : Component) → Of p c → c.head ≡ e → last ≡ c.end
  other : ((c : Component) → Of p c → c.head ≢ e) → last ≡ place_of p e

last_place : (p : PlanView) (e : ℕ) → Axioms p → LastPlace p e
last_place p e axioms = elim (find_component (λ (c : Component). c.head) p.components e) [
  | inl h ↦ record {
    last = h.0.end;
    head = λ c of is. ap (λ (x : Component). x.end) (same_head p h.0 c axioms h.1 of (h.2 ∙ sym is));
    other = λ none. absurd (none h.0 h.1 h.2);
  }
  | inr none ↦ record {
    last = place_of p e;
    head = λ c of is. absurd (none c of is);
    other = λ none'. refl;
  }
]

lasts_of : (p : PlanView) → Axioms p → (lasts : List ℕ) × AreLasts p lasts
lasts_of p axioms =
    let f : ℕ → ℕ = λ e. (last_place p e axioms).last in
    let lasts : List ℕ = map f (range_with_len 0 p.elements) in
    let at : (e : ℕ) → e < p.elements → get_or lasts e 0 ≡ f e = λ e within.
    get_or-map f (range_with_len 0 p.elements) e 0 0 (let l = length-range_with_len 0 p.elements in omega (arith, l, within)) ∙ ap f (let r = get_or-range_with_len 0 p.elements e 0 within in omega (arith, r)) in (
      lasts,
      record {
        length = length-map-range_with_len f 0 p.elements;
        heads = λ c of. at c.head (head_within p c axioms of) ∙ (last_place p c.head axioms).head c of refl;
        others = λ e within none. at e within ∙ (last_place p e axioms).other none;
      },
    )

record AllPlaced (p : PlanView) (lasts : List ℕ) : Type 0 where
  places : List Place
  steps : AreSteps p lasts places
  every : (e : ℕ) → e < p.elements → Stands places e

-- from places on, where the list has what is left
place_all : (p : PlanView) (lasts : List ℕ) (n : ℕ) (left : List ℕ) (places : List Place) (cs : List Component) → Axioms p → AreLasts p lasts → length left ≤ n → AreSteps p lasts places → Chain p places cs → ((e : ℕ) → e < p.elements → (Stands places e → ⊥) → Contains left e) → AllPlaced p lasts
place_all p lasts zero left places cs axioms are short steps chain has = elim (next_candidate p lasts places cs axioms are steps chain) [
  | inl all ↦ record { places = places; steps = steps; every = all }
  | inr k ↦ absurd (let i : Contains left k.element = has k.element k.is.within k.is.fresh in omega (arith, i.1, short))
]
place_all p lasts (suc n) left places cs axioms are short steps chain has = elim (next_candidate p lasts places cs axioms are steps chain) [
  | inl all ↦ record { places = places; steps = steps; every = all }
  | inr k ↦
      let t : Turn p lasts places k.element = turn p lasts places cs k.element axioms are steps chain k.is in
      let step : IsStep p lasts places (placed_as k.element t.role) = record {
        within = k.is.within;
        fresh = k.is.fresh;
        free = k.is.free;
        inside = k.is.inside;
        least = λ e within fresh free inside. k.least e (record { within = within; fresh = fresh; free = free; inside = inside });
        role = t.has;
      } in
      let others : Picked left (λ v. v ≢ k.element) = others_of left k.element in
      let fewer : length others.list < length left = others.fewer k.element (has k.element k.is.within k.is.fresh) (λ o. o refl) in
      place_all p lasts n others.list (places ++ placed_as k.element t.role ∷ []) t.components axioms are (omega (arith, fewer, short)) (Then steps step) t.chain
      (λ e within fresh. others.has e (has e within (λ s. fresh (stands_more places (placed_as k.element t.role ∷ []) e s)))
      (λ same. fresh (subst (λ (x : ℕ). Stands (places ++ placed_as k.element t.role ∷ []) x) (sym same) (stands_last places (placed_as k.element t.role)))))
]

pub every_plan_has_a_linear_order : EveryPlanHasALinearOrder
every_plan_has_a_linear_order = λ p axioms.
    let l : (lasts : List ℕ) × AreLasts p lasts = lasts_of p axioms in
    let none : Chain p [] [] = record {
      opens = λ c i. absurd (contains_none i);
      every = λ c o. absurd (contains_none o.head);
      nested = tt;
    } in
    let all : AllPlaced p l.0 = place_all p l.0 (length (below p.elements)) (below p.elements) [] [] axioms l.1 (omega arith) Start none (λ e within fresh. below_has p.elements e within) in
    let s : SpellsOrder p all.places = steps_spell p l.0 all.places axioms l.1 all.steps all.every in
    (s.level, s.linear)
