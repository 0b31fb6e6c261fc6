-- The items of a linear order are those of its plan.
use Rattle.std.proofs.Common.{◌≡◌, ℕ, ◌<◌, ◌↔◌, ◌⊎◌, inl, inr, true, ap, sym, subst, ◌∙◌}
use Rattle.pk_plan.specs.Order.{Level}
use Rattle.pk_plan.specs.Plans.{PlanView}
use Rattle.pk_plan.specs.Axioms.{Axioms}
use Rattle.pk_plan.specs.Linear.{elements_of, items_of, IsLinear}
use Rattle.pk_plan.specs.Shape.{has, holds}
use Rattle.pk_plan.proofs.PlanLemmas.{is_inside_tells}
use Rattle.std.proofs.Common.{length}
use Rattle.pk_core.proofs.Basics.{not_true}
use Rattle.pk_core.proofs.Plan_shapes.{has_of, of_has}
use Rattle.pk_items.specs.Items.{top_of}
use Rattle.pk_items.proofs.Outermost.{holding, holds_by, one_top}
use Rattle.pk_items.proofs.Rising.{Once, once_by_pairs}
use Rattle.pk_release.specs.In_order.{item_in}
use Rattle.pk_release.specs.Laws.{ItemsAreTops}
use Rattle.pk_release.proofs.Naming.{name_in, AreItems, are_items, name_outside, name_under}

module _ (p : PlanView) (order : Level) (axioms : Axioms p) (linear : IsLinear p order) where
  pub once : Once (elements_of order)
  once = once_by_pairs (elements_of order) linear.once

  pub items : AreItems (elements_of order) (length (items_of order)) (item_in order) (name_in order)
  items = are_items order once

  pub stands : (e : ℕ) → e < p.elements → has e (elements_of order) ≡ true
  stands e low = has_of e (elements_of order) (linear.every e low)

  under : (e : ℕ) → e < p.elements → (e ≡ name_in order e) ⊎ (holds p (name_in order e) e ≡ true)
  under e low = elim (name_under order e (stands e low)) [
    | inl is ↦ inl is
    | inr w ↦ inr (
        let found = linear.drawn w.bracket w.drawn in
        let c = found.0 in
        let of = found.1 in
        let around = found.2 in
        let inside = (around.members e).0 (of_has e w.bracket.members w.member) in
        subst (λ (x : ℕ). holds p x e ≡ true) (sym around.exit ∙ w.exit) (holds_by p axioms c of e low ((is_inside_tells p c e axioms of low).1 inside)))
  ]

  outermost : (e : ℕ) → e < p.elements → (y : ℕ) → holds p y (name_in order e) ≡ true → ⊥
  outermost e low y h =
      let held = holding p axioms y (name_in order e) h in
      let inside = (is_inside_tells p held.component (name_in order e) axioms held.of held.within).0 held.inside in
      let found = linear.enclosed held.component held.of in
      let b = found.0 in
      let around = found.2 in
      name_outside order once e (stands e low) b found.1 (has_of (name_in order e) b.members ((around.members (name_in order e)).1 inside))

  pub top_is : (e : ℕ) → e < p.elements → top_of p e ≡ name_in order e
  top_is e low = one_top p axioms (name_in order e) e low (record { outermost = λ y. not_true (holds p y (name_in order e)) (outermost e low y); under = under e low })

  -- an item's last element stands in it
  pub item_top : (e : ℕ) → e < p.elements → item_in order (top_of p e) ≡ item_in order e
  item_top e low = ap (item_in order) (top_is e low) ∙ items.kept e (stands e low)

  pub same_item : (a b : ℕ) → a < p.elements → b < p.elements → top_of p a ≡ top_of p b → item_in order a ≡ item_in order b
  same_item a b a_low b_low is = sym (item_top a a_low) ∙ ap (item_in order) is ∙ item_top b b_low

  same_top : (a b : ℕ) → a < p.elements → b < p.elements → item_in order a ≡ item_in order b → top_of p a ≡ top_of p b
  same_top a b a_low b_low is = top_is a a_low ∙ items.named a b (stands a a_low) (stands b b_low) is ∙ sym (top_is b b_low)

  pub same_both : (a b : ℕ) → a < p.elements → b < p.elements → (item_in order a ≡ item_in order b) ↔ (top_of p a ≡ top_of p b)
  same_both a b a_low b_low = (same_top a b a_low b_low, same_item a b a_low b_low)

pub items_are_tops : ItemsAreTops
items_are_tops p order axioms linear a b a_low b_low = same_both p order axioms linear a b a_low b_low
