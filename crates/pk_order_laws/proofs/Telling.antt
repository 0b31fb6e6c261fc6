-- Properties of a plan's elements that are told over its lists.
use Rattle.std.proofs.Common.{ℕ, ◌<◌, ◌≤◌, List, get_or, inl, inr, Contains}
use Rattle.pk_plan.specs.declared.components.Component.{Component}
use Rattle.pk_plan.specs.declared.places.Place.{Place}
use Rattle.pk_plan.specs.Plans.{PlanView, Constrains, successors_of, place_of}
use Rattle.pk_plan.specs.Axioms.{Axioms}
use Rattle.pk_plan.proofs.PlanLemmas.{constrains_from}
use Rattle.pk_linear.specs.Waits.{WaitsFor}
use Rattle.pk_linear.specs.Steps.{elements_at, Stands, IsOpen, IsFree, Follows}
use Rattle.pk_linear.proofs.ListLemmas.{is_or_is_not}
use Rattle.pk_order_laws.proofs.Told.{Told, any_in, told_both, told_not, told_less, told_most}
use Rattle.pk_order_laws.proofs.Picking.{below, below_has}

pub told_stands : (places : List Place) (e : ℕ) → Told (Stands places e)
told_stands places e = is_or_is_not (elements_at places) e

abbrev pub Awaits : PlanView → List ℕ → ℕ → ℕ → ℕ → Type 0
Awaits p lasts e a b = Constrains p a b × ((place_of p e ≤ place_of p b) × ((place_of p b ≤ get_or lasts e 0) × (place_of p a < place_of p e)))

told_awaits : (p : PlanView) (lasts : List ℕ) (e a b : ℕ) → Told (Awaits p lasts e a b)
told_awaits p lasts e a b =
    told_both (Constrains p a b) ((place_of p e ≤ place_of p b) × ((place_of p b ≤ get_or lasts e 0) × (place_of p a < place_of p e))) (is_or_is_not (successors_of p a) b)
    (told_both (place_of p e ≤ place_of p b) ((place_of p b ≤ get_or lasts e 0) × (place_of p a < place_of p e)) (told_most (place_of p e) (place_of p b))
    (told_both (place_of p b ≤ get_or lasts e 0) (place_of p a < place_of p e) (told_most (place_of p b) (get_or lasts e 0)) (told_less (place_of p a) (place_of p e))))

told_waits : (p : PlanView) (lasts : List ℕ) (e a : ℕ) → Axioms p → Told (WaitsFor p lasts e a)
told_waits p lasts e a axioms = elim (any_in (below p.elements) (Awaits p lasts e a) (λ b i. told_awaits p lasts e a b)) [
  | inl q ↦ inl (q.0, q.2.0, q.2.1.0, q.2.1.1.0, q.2.1.1.1)
  | inr none ↦ inr (λ w. none w.0 (below_has p.elements w.0 (axioms.within a w.0 w.1)) (w.1, (w.2, (w.3, w.4))))
]

pub told_free : (p : PlanView) (lasts : List ℕ) (places : List Place) (e : ℕ) → Axioms p → Told (IsFree p lasts places e)
told_free p lasts places e axioms =
    elim (any_in (below p.elements) (λ a. WaitsFor p lasts e a × (Stands places a → ⊥)) (λ a i. told_both (WaitsFor p lasts e a) (Stands places a → ⊥) (told_waits p lasts e a axioms) (told_not (Stands places a) (told_stands places a)))) [
      | inl q ↦ inr (λ free. held p lasts places e q.0 q.2 free)
      | inr none ↦ inl (λ a w. elim (told_stands places a) [ inl s ↦ s | inr n ↦ absurd (none a (below_has p.elements a (constrains_from p a w.0 axioms w.1)) (w, n)) ])
    ]
  where
    held : (p : PlanView) (lasts : List ℕ) (places : List Place) (e a : ℕ) → WaitsFor p lasts e a × (Stands places a → ⊥) → IsFree p lasts places e → ⊥
    held p lasts places e a (w, n) free = n (free a w)

told_open : (p : PlanView) (places : List Place) (c : Component) → Contains p.components c → Told (IsOpen p places c)
told_open p places c of = elim (told_stands places c.head) [
  | inr never ↦ inr (λ o. never o.head)
  | inl h ↦ elim (told_stands places c.exit) [
    | inl x ↦ inr (λ o. o.exit x)
    | inr n ↦ inl (record { component = of; head = h; exit = n })
  ]
]

told_follows : (p : PlanView) (c : Component) (e : ℕ) → Told (Follows p c e)
told_follows p c e = told_both (c.first < place_of p e) (place_of p e ≤ c.end) (told_less c.first (place_of p e)) (told_most (place_of p e) c.end)

pub told_inside : (p : PlanView) (places : List Place) (e : ℕ) → Told ((c : Component) → IsOpen p places c → Follows p c e)
told_inside p places e =
    elim (any_in p.components (λ c. IsOpen p places c × (Follows p c e → ⊥)) (λ c i. told_both (IsOpen p places c) (Follows p c e → ⊥) (told_open p places c i) (told_not (Follows p c e) (told_follows p c e)))) [
      | inl q ↦ inr (λ inside. held p places e q.0 q.2 inside)
      | inr none ↦ inl (λ c o. elim (told_follows p c e) [ inl f ↦ f | inr n ↦ absurd (none c o.component (o, n)) ])
    ]
  where
    held : (p : PlanView) (places : List Place) (e : ℕ) (c : Component) → IsOpen p places c × (Follows p c e → ⊥) → ((d : Component) → IsOpen p places d → Follows p d e) → ⊥
    held p places e c (o, n) inside = n (inside c o)
