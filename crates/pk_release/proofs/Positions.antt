-- States that stand at a place of the order: what stands before it is done, and nothing of a later item was run.
use Rattle.std.proofs.Common.{◌≡◌, ℕ, zero, suc, ◌<◌, ◌≤◌, ◌==◌, ◌||◌, List, [], ◌∷◌, ◌++◌, length, drop, Bool, true, false, not, nat_lt, refl, ap, sym, subst, ◌∙◌, arith, append_assoc, append-nil}
use Rattle.pk_plan.specs.Order.{Level, Empty, Vertex_then, Component_then}
use Rattle.pk_plan.specs.Plans.{PlanView}
use Rattle.pk_plan.specs.Axioms.{Axioms}
use Rattle.pk_plan.specs.Linear.{elements_of, items_of, IsLinear}
use Rattle.pk_plan.specs.Shape.{has}
use Rattle.pk_iterate.specs.Iteration.{Task, Exit, to_do, element_of}
use Rattle.pk_core.specs.declared.events.Status.{Status}
use Rattle.pk_core.specs.declared.events.Status.TheVariants.{Waiting, Open, Held, Done}
use Rattle.pk_core.specs.States.{Made, State}
use Rattle.pk_core.specs.Orders.{elements_left}
use Rattle.pk_core.proofs.Basics.{not_true, same as same_number}
use Rattle.pk_core.proofs.Keeps.{is_done as done_there}
use Rattle.pk_items.specs.Items.{top_of}
use Rattle.pk_items.proofs.Outermost.{top_under}
use Rattle.pk_release.specs.Kept.{is_done, was_run}
use Rattle.pk_release.specs.In_order.{item_in, IsInOrder}
use Rattle.pk_release.proofs.Naming.{Rises, has_here}
use Rattle.pk_release.proofs.Tops_of.{items, stands, item_top}

-- the elements that are left to do are those of the level, and then the others
pub elements_to_do : (level : Level) (left : List Task) → elements_left (to_do level left) ≡ elements_of level ++ elements_left left
elements_to_do Empty left = refl
elements_to_do (Vertex_then v more) left = ap (λ (us : List ℕ). v ∷ us) (elements_to_do more left)
elements_to_do (Component_then head exit rest more) left =
    ap (λ (us : List ℕ). head ∷ us) (elements_to_do rest (Exit head exit rest ∷ to_do more left) ∙ ap (λ (us : List ℕ). elements_of rest ++ exit ∷ us) (elements_to_do more left)
    ∙ sym (append_assoc (elements_of rest) (exit ∷ elements_of more) (elements_left left)))

pub level_to_do : (level : Level) → elements_left (to_do level []) ≡ elements_of level
level_to_do level = elements_to_do level [] ∙ append-nil (elements_of level)

rises_drop : (f : ℕ → ℕ) (i : ℕ) (ts : List Task) → Rises f (elements_left ts) → Rises f (elements_left (drop i ts))
rises_drop f zero [] rises = tt
rises_drop f zero (t ∷ ts) rises = rises
rises_drop f (suc i) [] rises = tt
rises_drop f (suc i) (t ∷ ts) rises = rises_drop f i ts rises.1

-- what is left to do from a place of the order on
abbrev pub left_from : Level → ℕ → List Task
left_from order at = drop at (to_do order [])

-- the item of the next run
abbrev pub next_item : Level → List Task → ℕ
next_item order [] = length (items_of order)
next_item order (t ∷ left) = item_in order (element_of t)

pub record StandsAt {C : Type 0} (p : PlanView) (order : Level) (s : State C) (left : List Task) : Type 0 where
  pub done : (u : ℕ) → u < p.elements → done_there (s u).status ≡ not (has u (elements_left left))
  pub ran : (u : ℕ) → u < p.elements → was_run s u ≡ true → item_in order u ≤ next_item order left

-- it depends on what is done and what was made alone
pub same_place : {C : Type 0} (p : PlanView) (order : Level) (s t : State C) (left : List Task) → StandsAt p order s left → ((u : ℕ) → done_there (t u).status ≡ done_there (s u).status) → ((u : ℕ) → (t u).made ≡ (s u).made) → StandsAt p order t left
same_place {C} p order s t left at done made = record {
  done = λ u low. done u ∙ at.done u low;
  ran = λ u low run. at.ran u low (ap (λ (ms : List (Made C)). nat_lt 0 (length ms)) (sym (made u)) ∙ run);
}

pub same_done : (st : Status) → is_done st ≡ done_there st
same_done (Waiting n) = refl
same_done Open = refl
same_done Held = refl
same_done Done = refl

module _ (p : PlanView) (order : Level) (axioms : Axioms p) (linear : IsLinear p order) where
  pub rises_from : (at : ℕ) → Rises (item_in order) (elements_left (left_from order at))
  rises_from at = rises_drop (item_in order) at (to_do order []) (subst (Rises (item_in order)) (sym (level_to_do order)) (items p order axioms linear).rises)

  -- the next run is of no earlier item
  pub next_rises : (at : ℕ) (t : Task) (left : List Task) → element_of t < p.elements → left_from order at ≡ t ∷ left → next_item order (t ∷ left) ≤ next_item order left
  next_rises at t [] low is = let l = (items p order axioms linear).low (element_of t) (stands p order axioms linear (element_of t) low) in omega (arith, l)
  next_rises at t (v ∷ left) low is =
      let rises : Rises (item_in order) (elements_left (t ∷ (v ∷ left))) = subst (λ (ts : List Task). Rises (item_in order) (elements_left ts)) is (rises_from at) in
      rises.0 (element_of v) (has_here (element_of v) (elements_left left))

  -- whatever is left is of no earlier item than the next
  least_left : (at : ℕ) (left : List Task) (u : ℕ) → left_from order at ≡ left → has u (elements_left left) ≡ true → next_item order left ≤ item_in order u
  least_left at [] u is h = absurd (cc)
  least_left at (t ∷ left) u is h =
      let rises : Rises (item_in order) (elements_left (t ∷ left)) = subst (λ (ts : List Task). Rises (item_in order) (elements_left ts)) is (rises_from at) in
      by (u == element_of t) refl h rises
    where
      by : (c : Bool) → (u == element_of t) ≡ c → (c || has u (elements_left left)) ≡ true → Rises (item_in order) (elements_left (t ∷ left)) → item_in order (element_of t) ≤ item_in order u
      by true q i rises = let e = ap (item_in order) (same_number u (element_of t) q) in omega (arith, e)
      by false q i rises = rises.0 u i

  pub goes_in_order : {C : Type 0} (s : State C) (at : ℕ) → StandsAt p order s (left_from order at) → IsInOrder p order s
  goes_in_order s at stand e u e_low u_low run less =
      let top = top_of p u in
      let top_low = (top_under p axioms u u_low).low in
      let same = item_top p order axioms linear u u_low in
      let most = stand.ran e e_low run in
      let gone : has top (elements_left (left_from order at)) ≡ false = not_true (has top (elements_left (left_from order at))) (λ h.
      let l = least_left at (left_from order at) top refl h in absurd (omega (arith, l, same, most, less))) in
      same_done (s top).status ∙ stand.done top top_low ∙ ap not gone
