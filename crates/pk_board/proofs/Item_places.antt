-- Where an item stands in the listing of its plan.
use Rattle.std.proofs.Common.{◌≡◌, ◌≢◌, ℕ, ◌<◌, ◌≤◌, ◌⊎◌, List, get_or, true, false, inl, inr, refl, sym, ap, subst, ◌∙◌, arith}
use Rattle.std.proofs.lemmas.Bool.{cases_lt}
use Rattle.pk_plan.specs.declared.components.Component.{Component}
use Rattle.pk_plan.specs.Axioms.{Axioms}
use Rattle.pk_plan.specs.Plans.{PlanView, place_of, is_inside}
use Rattle.pk_plan.specs.Shape.{component_of, exits, holds}
use Rattle.pk_plan.proofs.PlanLemmas.{Of, end_at, first_before_end, same_place, same_exit}
use Rattle.pk_plan.proofs.Shapes.{of_exit, exit_is}
use Rattle.pk_items.specs.Items.{top_of, EndsItem}
use Rattle.pk_items.proofs.Numbers as numbers
use Rattle.pk_items.proofs.Outermost.{holding, exits_by, holds_by, ends_under, under_top, tops_are_outermost}
use Rattle.pk_board.specs.Emptying.{IsItemFrom}

module _ (p : PlanView) (axioms : Axioms p) (x : ℕ) (item : EndsItem p x) where
  exit_item : exits p x ≡ true → IsItemFrom p x (component_of p x).first
  exit_item exit = record {
    within = omega (arith, first_before_end p c axioms of, end);
    each = λ u low. ((λ top. from_top u low (under_top p axioms x u low top)), λ between. to_top u low between.0 between.1);
  }
    where
      c : Component
      c = component_of p x

      of : Of p (component_of p x)
      of = of_exit p x exit

      end : (component_of p x).end ≡ place_of p x
      end = end_at p (component_of p x) axioms (of_exit p x exit) ∙ ap (place_of p) (exit_is p x axioms exit)

      from_top : (u : ℕ) → u < p.elements → (u ≡ x) ⊎ (holds p x u ≡ true) → ((component_of p x).first ≤ place_of p u) × (place_of p u ≤ place_of p x)
      from_top u low (inl same) = (omega (arith, first_before_end p c axioms of, end, ap (place_of p) same), omega (arith, ap (place_of p) same))
      from_top u low (inr h) =
          let held = holding p axioms x u h in
          let same = same_exit p held.component (component_of p x) axioms held.of (of_exit p x exit) (held.exit ∙ sym (exit_is p x axioms exit)) in
          let inside : is_inside p (component_of p x) u ≡ true = ap (λ (d : Component). is_inside p d u) (sym same) ∙ held.inside in
          let at = numbers.between (component_of p x).first (place_of p u) (component_of p x).end inside in
          (at.0, omega (arith, at.1, end))

      to_top : (u : ℕ) → u < p.elements → (component_of p x).first ≤ place_of p u → place_of p u ≤ place_of p x → top_of p u ≡ x
      to_top u low from before = ((tops_are_outermost p axioms).has x u item low).1 (elim (cases_lt (place_of p u) (place_of p x)) [
        | inl less ↦ inr (ap (λ (j : ℕ). holds p j u) (sym (exit_is p x axioms exit)) ∙ holds_by p axioms c of u low (numbers.is_between (component_of p x).first (place_of p u) (component_of p x).end from (omega (arith, less, end))))
        | inr more ↦ inl (same_place p u x axioms low item.element (omega (arith, more, before)))
      ])

  vertex_item : exits p x ≡ false → IsItemFrom p x (place_of p x)
  vertex_item vertex = record {
    within = omega arith;
    each = λ u low. (
      (λ top. elim (under_top p axioms x u low top) [
        | inl same ↦ (omega (arith, ap (place_of p) same), omega (arith, ap (place_of p) same))
        | inr h ↦ absurd (
            let held = holding p axioms x u h in
            let exit : exits p x ≡ true = ap (exits p) (sym held.exit) ∙ exits_by p axioms held.component held.of in
            cc)
      ]),
      λ between. ap (top_of p) (same_place p u x axioms low item.element (omega (arith, between.0, between.1))) ∙ item.outermost,
    );
  }

pub exit_from : (p q : PlanView) (x : ℕ) (c : Component) → Axioms p → EndsItem p x → q ≡ p → exits q x ≡ true → c ≡ component_of q x → IsItemFrom p x c.first
exit_from p q x c axioms item is exit component =
    let exit_p : exits p x ≡ true = ap (λ (r : PlanView). exits r x) (sym is) ∙ exit in
    let same : c ≡ component_of p x = component ∙ ap (λ (r : PlanView). component_of r x) is in
    subst (λ (d : Component). IsItemFrom p x d.first) (sym same) (exit_item p axioms x item exit_p)

pub vertex_from : (p q : PlanView) (x place : ℕ) → Axioms p → EndsItem p x → q ≡ p → exits q x ≡ false → place ≡ place_of q x → IsItemFrom p x place
vertex_from p q x place axioms item is vertex at =
    let vertex_p : exits p x ≡ false = ap (λ (r : PlanView). exits r x) (sym is) ∙ vertex in
    subst (IsItemFrom p x) (sym (at ∙ ap (λ (r : PlanView). place_of r x) is)) (vertex_item p axioms x item vertex_p)

-- a member of the component whose exit ends the item
pub member_of : (p : PlanView) (x u : ℕ) → Axioms p → EndsItem p x → holds p x u ≡ true → (u < p.elements) × (top_of p u ≡ x) × (u ≢ x)
member_of p x u axioms item h =
    let low = (holding p axioms x u h).within in (
      low,
      ((tops_are_outermost p axioms).has x u item low).1 (inr h),
      λ q. absurd (
          let out : holds p x x ≡ false = (ends_under p axioms x x item (inl refl)).outermost x in
          let inside : holds p x x ≡ true = subst (λ (j : ℕ). holds p x j ≡ true) q h in
          cc),
    )

-- an element of the item, by its place
pub record AtPlace (p : PlanView) (x at u : ℕ) : Type 0 where
  pub low : u < p.elements
  pub place : place_of p u ≡ at
  pub top : top_of p u ≡ x

at_place : (p : PlanView) (x from at u : ℕ) → Axioms p → EndsItem p x → IsItemFrom p x from → from ≤ at → at ≤ place_of p x → u ≡ get_or p.listing at 0 → AtPlace p x at u
at_place p x from at u axioms item start after before is =
    let within : at < p.elements = omega (arith, before, axioms.place x item.element) in
    let low : u < p.elements = subst (λ (j : ℕ). j < p.elements) (sym is) (axioms.element at within) in
    let place : place_of p u ≡ at = ap (place_of p) is ∙ axioms.place_at at within in
    record { low = low; place = place; top = (start.each u low).1 (omega (arith, place, after), omega (arith, place, before)) }

pub member_at : (p q : PlanView) (listing : List ℕ) (x from at end : ℕ) → Axioms p → EndsItem p x → IsItemFrom p x from → q ≡ p → listing ≡ q.listing → end ≡ place_of q x → from ≤ at → at < end → AtPlace p x at (get_or listing at 0) × (at < place_of p x)
member_at p q listing x from at end axioms item start is listing_is end_is after before =
    let there : at < place_of p x = omega (arith, before, end_is, ap (λ (r : PlanView). place_of r x) is) in
    (at_place p x from at (get_or listing at 0) axioms item start after (omega (arith, there)) (ap (λ (xs : List ℕ). get_or xs at 0) (listing_is ∙ ap (λ (r : PlanView). r.listing) is)), there)
