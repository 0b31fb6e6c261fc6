-- The last cells of an item's points, and its part.
use Rattle.std.proofs.Common.{◌≡◌, ◌≢◌, ℕ, ◌+◌, ◌<◌, List, [], ◌∷◌, ◌++◌, length, map, take, get_or, true, sym, ap, subst, ◌∙◌, inl, inr, arith}
use Rattle.std.proofs.lemmas.List.{take_more, take_all, map-append}
use Rattle.pk_plan.specs.Axioms.{Axioms}
use Rattle.pk_plan.specs.Order.{Level}
use Rattle.pk_plan.specs.Plans.{PlanView}
use Rattle.pk_plan.specs.Shape.{has, holds, shape_of}
use Rattle.pk_iterate.specs.Behaviour.{Behaviour, HoldEach}
use Rattle.pk_iterate.specs.Ending.{Ends, result_cell}
use Rattle.pk_iterate.specs.Laws.{CellsAreHeld}
use Rattle.pk_core.specs.Orders.{IsOrderOf}
use Rattle.pk_items.specs.Items.{top_of, points_in}
use Rattle.pk_items.proofs.Members.{points_have}
use Rattle.pk_items.proofs.Outermost.{under_top}
use Rattle.pk_words.specs.declared.view.View.{View}
use Rattle.pk_words.specs.Reads.{HasEnd}
use Rattle.pk_words.specs.Kinds.{IsPartOf}
use Rattle.pk_words.specs.Tokens.{times, number_of}
use Rattle.pk_words.specs.Views.{HasHold}
use Rattle.pk_words.proofs.Sends.{has_get}
use Rattle.pk_lean_words.specs.Members.{IsLastCell}
use Rattle.pk_board.specs.Calls.{IsFound, IsLook}
use Rattle.pk_workers.specs.Working.{HasSame}

-- another element of the item is a member of the component whose exit ends it
pub is_member : (p : PlanView) (x u : ℕ) → Axioms p → u < p.elements → top_of p u ≡ x → u ≢ x → holds p x u ≡ true
is_member p x u axioms low top apart = elim (under_top p axioms x u low top) [
  | inl same ↦ absurd (apart same)
  | inr inside ↦ inside
]

pub found_same : (e : ℕ) (old new : View) → IsFound e old new → HasSame old new
found_same e old new is = record { holds = ap (λ v. v.holds) is.view; sends = ap (λ v. v.sends) is.view; resets = ap (λ v. v.resets) is.view }

pub look_same : (e : ℕ) (old new : View) → IsLook e old new → HasSame old new
look_same e old new is = record { holds = ap (λ v. v.holds) is.view; sends = ap (λ v. v.sends) is.view; resets = ap (λ v. v.resets) is.view }

pub still_held : (old new : View) (e run : ℕ) → HasSame old new → HasHold old e run → HasHold new e run
still_held old new e run same hold = subst (λ (hs : List (ℕ × ℕ)). (0 < times e hs) × (number_of e hs ≡ run)) (sym same.holds) hold

-- the points so far have their last cells
abbrev pub AreLast : {C : Type 0} → Behaviour C → PlanView → List ℕ → List C → Type 0
AreLast b p points cells = (order : Level) (ends : Ends b order) → IsOrderOf (shape_of p) order → cells ≡ map (result_cell ends) points

pub last_more : {A C : Type 0} (b : Behaviour C) (p : PlanView) (f : A → C) (points : List ℕ) (k : ℕ) (old new : List A) (y : A) → k < length points → AreLast b p (take k points) (map f old) → new ≡ old ++ y ∷ [] → IsLastCell b p (get_or points k 0) (f y) → AreLast b p (take (k + 1) points) (map f new)
last_more {A} {C} b p f points k old new y in_range all is last order ends ordered =
    ap (map f) is ∙ map-append f old (y ∷ []) ∙ ap (λ (cs : List C). cs ++ f y ∷ []) (all order ends ordered)
    ∙ ap (λ (c : C). map (result_cell ends) (take k points) ++ c ∷ []) (last order ends ordered)
    ∙ sym (map-append (result_cell ends) (take k points) (get_or points k 0 ∷ [])) ∙ ap (map (result_cell ends)) (sym (take_more points k 0 in_range))

pub point_at : (p : PlanView) (x k : ℕ) (points : List ℕ) → Axioms p → points ≡ points_in p x → k < length points → (get_or points k 0 < p.elements) × (top_of p (get_or points k 0) ≡ x)
point_at p x k points axioms is in_range =
    let h = points_have p x (get_or points k 0) (subst (λ (xs : List ℕ). has (get_or points k 0) xs ≡ true) is (has_get points k in_range)) in
    (omega (arith, h.0, axioms.counted), h.1)

held_map : {C : Type 0} (may_hold : ℕ → C → Type 0) (f : ℕ → C) (points : List ℕ) → ((e : ℕ) → may_hold e (f e)) → HoldEach may_hold points (map f points)
held_map may_hold f [] all = tt
held_map may_hold f (x ∷ xs) all = (all x, held_map may_hold f xs all)

pub points_held : {C : Type 0} (b : Behaviour C) (may_hold : ℕ → C → Type 0) (p : PlanView) (points : List ℕ) (k : ℕ) (cells : List C) → CellsAreHeld b may_hold → HasEnd b p → length points ≡ k → AreLast b p (take k points) cells → HoldEach may_hold points cells
points_held {C} b may_hold p points k cells held has_end all last =
    let is = last has_end.0 has_end.1 has_end.2 ∙ ap (map (result_cell has_end.1)) (take_all k points (omega (arith, all))) in
    subst (λ (cs : List C). HoldEach may_hold points cs) (sym is) (held_map may_hold (result_cell has_end.1) points (λ e. held.cells has_end.0 has_end.1.made e))

pub is_part : {C P : Type 0} (b : Behaviour C) (p : PlanView) (make : List ℕ → List C → P) (x k : ℕ) (points : List ℕ) (cells : List C) (part : P) → points ≡ points_in p x → length points ≡ k → AreLast b p (take k points) cells → part ≡ make points cells → IsPartOf b p make x part
is_part {C} {P} b p make x k points cells part is all last made order ends ordered =
    let cells_are = last order ends ordered ∙ ap (map (result_cell ends)) (take_all k points (omega (arith, all))) in
    made ∙ ap (make points) cells_are ∙ ap (λ (xs : List ℕ). make xs (map (result_cell ends) xs)) is
