-- The linear order of a plan that fits its digraph meets Bourdoncle's condition.
use Rattle.std.proofs.Common.{◌≡◌, ℕ, ◌<◌, ◌⊎◌, inl, inr, List, ◌∷◌, ◌++◌, sym, subst, ◌∙◌, ap, append_assoc, Contains}
use Rattle.std.proofs.lemmas.Bool.{cases_eq}
use Rattle.std.proofs.lemmas.List.Elements.{Contains-append_left}
use Rattle.pk_plan.specs.declared.components.Component.{Component}
use Rattle.pk_plan.specs.Order.{Level}
use Rattle.pk_plan.specs.Plans.{PlanView, Precedes, One, More, Inside}
use Rattle.pk_plan.specs.Axioms.{Axioms}
use Rattle.pk_plan.proofs.PlanLemmas.{Of, acyclic, precedes_trans}
use Rattle.pk_wpo.specs.Made.{Fits}
use Rattle.pk_plan.specs.Linear.{elements_of, IsLinear, GoesForward}
use Rattle.pk_linear.proofs.ListLemmas.{split_at}
use Rattle.pk_order.specs.Condition.{StandsBefore, IsHeadAround, IsWeakTopologicalOrder}

-- what precedes an element stands before it
precedes_before : (p : PlanView) (order : Level) → GoesForward p order → (a b : ℕ) → Precedes p a b → (before after : List ℕ) → elements_of order ≡ before ++ b ∷ after → Contains before a
precedes_before p order forward a b (One constrains) before after cut = forward a b before after constrains cut
precedes_before p order forward a b (More {b = w} precedes constrains) before after cut =
    let s = split_at before w (forward w b before after constrains cut) in
    let whole : elements_of order ≡ s.before ++ w ∷ (s.after ++ b ∷ after) = cut ∙ ap (λ (xs : List ℕ). xs ++ b ∷ after) s.is ∙ append_assoc s.before (w ∷ s.after) (b ∷ after) in
    subst (λ (xs : List ℕ). Contains xs a) (sym s.is)
    (Contains-append_left s.before (w ∷ s.after) a (precedes_before p order forward a w precedes s.before (s.after ++ b ∷ after) whole))

precedes_to : (p : PlanView) (a b : ℕ) → Axioms p → Precedes p a b → b < p.elements
precedes_to p a b axioms (One constrains) = axioms.within a b constrains
precedes_to p a b axioms (More {b = w} precedes constrains) = axioms.within w b constrains

module _ (p : PlanView) (order : Level) (axioms : Axioms p) (linear : IsLinear p order) (forward : GoesForward p order) where
  stands_before : (a b : ℕ) → Precedes p a b → StandsBefore order a b
  stands_before a b precedes =
      let s = split_at (elements_of order) b (linear.every b (precedes_to p a b axioms precedes)) in
      record { before = s.before; after = s.after; cut = s.is; has = precedes_before p order forward a b precedes s.before s.after s.is }

  -- the brackets that hold an element are those of the components that hold it
  head_around : (c : Component) (e : ℕ) → Of p c → Inside p c e → IsHeadAround order c.head e
  head_around c e of inside =
      let b = linear.enclosed c of in
      record { bracket = b.0; drawn = b.1; head = b.2.head; holds = (b.2.members e).1 inside }

  component_around : (h e : ℕ) → IsHeadAround order h e → (c : Component) × Of p c × (c.head ≡ h) × Inside p c e
  component_around h e around =
      let c = linear.drawn around.bracket around.drawn in
      (c.0, c.1, sym c.2.head ∙ around.head, (c.2.members e).0 around.holds)

  -- an element of a component is its head, or its head precedes it
  head_first : (c : Component) (e : ℕ) → Of p c → Inside p c e → (c.head ≡ e) ⊎ Precedes p c.head e
  head_first c e of inside = elim (cases_eq e c.head) [ inl same ↦ inl (sym same) | inr other ↦ inr (axioms.after_head c e of inside other) ]

  not_around : (u v : ℕ) → Precedes p u v → IsHeadAround order v u → ⊥
  not_around u v precedes around =
      let c = component_around v u around in
      elim (head_first c.0 u c.1 c.3) [
        | inl same ↦ acyclic p u axioms (subst (λ (x : ℕ). Precedes p u x) (sym c.2 ∙ same) precedes)
        | inr back ↦ acyclic p v axioms (precedes_trans p v u v (subst (λ (x : ℕ). Precedes p x u) c.2 back) precedes)
      ]

  pub is_weak_topological_order : (g : List (List ℕ)) → Fits g p → IsWeakTopologicalOrder g order
  is_weak_topological_order g fits u v edge =
      elim (fits.edges u v edge) [
        | inl precedes ↦ inl (stands_before u v precedes, not_around u v precedes)
        | inr back ↦ inr (
          elim (head_first back.0 u back.1 back.3) [
            | inl same ↦ inl (sym back.2 ∙ same)
            | inr precedes ↦ inr (stands_before v u (subst (λ (x : ℕ). Precedes p x u) back.2 precedes))
          ],
          subst (λ (x : ℕ). IsHeadAround order x u) back.2 (head_around back.0 u back.1 back.3),
        )
      ]
