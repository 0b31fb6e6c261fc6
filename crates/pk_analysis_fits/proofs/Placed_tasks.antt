-- The tasks of a linear order are those of its plan.
use Rattle.std.proofs.Common.{◌≡◌, ℕ, zero, suc, ◌<◌, ◌≤◌, ◌&&◌, ◌⊎◌, inl, inr, List, [], ◌∷◌, ◌++◌, drop, Bool, true, false, ap, sym, subst, ◌∙◌, refl, arith, Contains, append-nil}
use Rattle.std.proofs.Math.Dec.{leb, ltb}
use Rattle.std.proofs.lemmas.Bool.Decides.{nat_tests}
use Rattle.std.proofs.lemmas.List.{append_assoc}
use Rattle.std.proofs.lemmas.List.Elements.{Contains-append_left, Contains-append_right}
use Rattle.pk_plan.specs.declared.components.Component.{Component}
use Rattle.pk_plan.specs.Order.{Level, Empty, Vertex_then, Component_then}
use Rattle.pk_plan.specs.Plans.{PlanView, end_of, predecessors_of, members_of, Inside, is_inside}
use Rattle.pk_plan.specs.Axioms.{Axioms}
use Rattle.pk_plan.specs.Plans.{One}
use Rattle.pk_plan.specs.Shape.{has, component_of, exits, holds, shape_of}
use Rattle.pk_plan.proofs.Apart.{Apart, apart_of}
use Rattle.pk_plan.proofs.PlanLemmas.{exit_at, same_exit, stands_inside}
use Rattle.pk_plan.specs.Linear.{elements_of, Bracket, brackets_of, IsLinear}
use Rattle.pk_linear.proofs.ListLemmas.{contains_here, contains_there}
use Rattle.pk_iterate.specs.Iteration.{Task, Run, Exit, to_do, element_of}
use Rattle.pk_iterate.specs.Settled.{In, Once, IsExit}
use Rattle.pk_iterate.specs.BoundedTurns.{HasComponent}
use Rattle.pk_sound.proofs.Ahead.{order_once, has_component, precedes_ahead}
use Rattle.pk_core.specs.Orders.{elements_left, IsTask, IsPlaced, IsOrderOf}
use Rattle.pk_core.proofs.Basics.{not_true}
use Rattle.pk_core.proofs.Plan_shapes.{has_of, of_has}
use Rattle.pk_plan.proofs.Shapes.{bool_same, of_exit, exit_is}
use Rattle.pk_core.proofs.Stepping.{holds_is, members_are}
use Rattle.pk_analysis_fits.specs.Orders.{LinearOrdersAreOrders}
use Rattle.pk_analysis_fits.proofs.Behind.{ahead_after, gone, once_at}

-- ---- the tasks of a level

-- the elements that are left to do are those of the level, and then the others
elements_to_do : (level : Level) (left : List Task) → elements_left (to_do level left) ≡ elements_of level ++ elements_left left
elements_to_do Empty left = refl
elements_to_do (Vertex_then v more) left = ap (λ (us : List ℕ). v ∷ us) (elements_to_do more left)
elements_to_do (Component_then h x rest more) left =
    let inner = elements_to_do rest (Exit h x rest ∷ to_do more left) in
    let outer = elements_to_do more left in
    ap (λ (us : List ℕ). h ∷ us) (inner ∙ ap (λ (us : List ℕ). elements_of rest ++ x ∷ us) outer ∙ sym (append_assoc (elements_of rest) (x ∷ elements_of more) (elements_left left)))

pub level_to_do : (level : Level) → elements_left (to_do level []) ≡ elements_of level
level_to_do level = elements_to_do level [] ∙ append-nil (elements_of level)

-- a run that a level has to do
abbrev Does : Level → Task → Type 0
Does Empty t = ⊥
Does (Vertex_then v more) t = (Run v ≡ t) ⊎ Does more t
Does (Component_then h x rest more) t = (Run h ≡ t) ⊎ ((Exit h x rest ≡ t) ⊎ (Does rest t ⊎ Does more t))

does_at : (level : Level) (left : List Task) (i : ℕ) (t : Task) (after : List Task) → drop i (to_do level left) ≡ t ∷ after → Does level t ⊎ ((j : ℕ) × (drop j left ≡ t ∷ after))
does_at Empty left i t after is = inr (i, is)
does_at (Vertex_then v more) left zero t after is = inl (inl (let q : Run v ≡ t = cc in q))
does_at (Vertex_then v more) left (suc i) t after is = elim (does_at more left i t after is) [ inl d ↦ inl (inr d) | inr q ↦ inr q ]
does_at (Component_then h x rest more) left zero t after is = inl (inl (let q : Run h ≡ t = cc in q))
does_at (Component_then h x rest more) left (suc i) t after is = elim (does_at rest (Exit h x rest ∷ to_do more left) i t after is) [
  | inl d ↦ inl (inr (inr (inl d)))
  | inr q ↦ later (λ j e. does_at more left j t after e) q.0 q.1
]
  where
    later : ((j : ℕ) → drop j (to_do more left) ≡ t ∷ after → Does more t ⊎ ((k : ℕ) × (drop k left ≡ t ∷ after))) → (j : ℕ) → drop j (Exit h x rest ∷ to_do more left) ≡ t ∷ after → Does (Component_then h x rest more) t ⊎ ((k : ℕ) × (drop k left ≡ t ∷ after))
    later f zero e = inl (inr (inl (let q : Exit h x rest ≡ t = cc in q)))
    later f (suc j) e = elim (f j e) [ inl d ↦ inl (inr (inr (inr d))) | inr q ↦ inr q ]

does_in : (level : Level) (e : ℕ) → Does level (Run e) → In level e
does_in Empty e d = absurd d
does_in (Vertex_then v more) e (inl q) = inl (let k : e ≡ v = cc in k)
does_in (Vertex_then v more) e (inr d) = inr (does_in more e d)
does_in (Component_then h x rest more) e (inl q) = inl (let k : e ≡ h = cc in k)
does_in (Component_then h x rest more) e (inr (inl q)) = absurd (cc)
does_in (Component_then h x rest more) e (inr (inr (inl d))) = inr (inr (inl (does_in rest e d)))
does_in (Component_then h x rest more) e (inr (inr (inr d))) = inr (inr (inr (does_in more e d)))

exit_in : (level : Level) (e : ℕ) → IsExit level e → In level e
exit_in Empty e i = absurd i
exit_in (Vertex_then v more) e i = inr (exit_in more e i)
exit_in (Component_then h x rest more) e (inl q) = inr (inl q)
exit_in (Component_then h x rest more) e (inr (inl i)) = inr (inr (inl (exit_in rest e i)))
exit_in (Component_then h x rest more) e (inr (inr i)) = inr (inr (inr (exit_in more e i)))

-- what is run as no exit is none
no_exit : (level : Level) (e : ℕ) → Once level → Does level (Run e) → IsExit level e → ⊥
no_exit Empty e o d i = d
no_exit (Vertex_then v more) e o (inl q) i = let k : e ≡ v = cc in o.0 (subst (λ (w : ℕ). In more w) k (exit_in more e i))
no_exit (Vertex_then v more) e o (inr d) i = no_exit more e o.1 d i
no_exit (Component_then h x rest more) e o (inl q) i = let k : e ≡ h = cc in by k i
  where
    by : e ≡ h → IsExit (Component_then h x rest more) e → ⊥
    by k (inl r) = o.0 (sym k ∙ r)
    by k (inr (inl j)) = o.1 (subst (λ (w : ℕ). In rest w) k (exit_in rest e j))
    by k (inr (inr j)) = o.2 (subst (λ (w : ℕ). In more w) k (exit_in more e j))
no_exit (Component_then h x rest more) e o (inr (inl q)) i = absurd (cc)
no_exit (Component_then h x rest more) e o (inr (inr (inl d))) (inl r) = o.3 (subst (λ (w : ℕ). In rest w) r (does_in rest e d))
no_exit (Component_then h x rest more) e o (inr (inr (inl d))) (inr (inl j)) = no_exit rest e o.6 d j
no_exit (Component_then h x rest more) e o (inr (inr (inl d))) (inr (inr j)) = o.5 e (does_in rest e d) (exit_in more e j)
no_exit (Component_then h x rest more) e o (inr (inr (inr d))) (inl r) = o.4 (subst (λ (w : ℕ). In more w) r (does_in more e d))
no_exit (Component_then h x rest more) e o (inr (inr (inr d))) (inr (inl j)) = o.5 e (exit_in rest e j) (does_in more e d)
no_exit (Component_then h x rest more) e o (inr (inr (inr d))) (inr (inr j)) = no_exit more e o.7 d j

has_exit : (level : Level) (h x : ℕ) → HasComponent level h x → IsExit level x
has_exit Empty h x i = absurd i
has_exit (Vertex_then v more) h x i = has_exit more h x i
has_exit (Component_then k y rest more) h x (inl q) = inl q.1
has_exit (Component_then k y rest more) h x (inr (inl i)) = inr (inl (has_exit rest h x i))
has_exit (Component_then k y rest more) h x (inr (inr i)) = inr (inr (has_exit more h x i))

abbrev bracket_of : ℕ → ℕ → Level → Bracket
bracket_of h x rest = record { head = h; exit = x; members = h ∷ elements_of rest }

-- an exit's task has its brackets
does_bracket : (level : Level) (h x : ℕ) (rest : Level) → Does level (Exit h x rest) → Contains (brackets_of level) (bracket_of h x rest)
does_bracket Empty h x rest d = absurd d
does_bracket (Vertex_then v more) h x rest (inl q) = absurd (cc)
does_bracket (Vertex_then v more) h x rest (inr d) = does_bracket more h x rest d
does_bracket (Component_then k y inner more) h x rest (inl q) = absurd (cc)
does_bracket (Component_then k y inner more) h x rest (inr (inl q)) =
    let same : bracket_of k y inner ≡ bracket_of h x rest = ap as_bracket q in
    subst (λ (b : Bracket). Contains (bracket_of k y inner ∷ (brackets_of inner ++ brackets_of more)) b) same (contains_here (bracket_of k y inner) (brackets_of inner ++ brackets_of more))
  where
    as_bracket : Task → Bracket
    as_bracket (Run e) = bracket_of e e Empty
    as_bracket (Exit a c l) = bracket_of a c l
does_bracket (Component_then k y inner more) h x rest (inr (inr (inl d))) =
    contains_there (bracket_of k y inner) (brackets_of inner ++ brackets_of more) (Contains-append_left (brackets_of inner) (brackets_of more) (bracket_of h x rest) (does_bracket inner h x rest d))
does_bracket (Component_then k y inner more) h x rest (inr (inr (inr d))) =
    contains_there (bracket_of k y inner) (brackets_of inner ++ brackets_of more) (Contains-append_right (brackets_of inner) (brackets_of more) (bracket_of h x rest) (does_bracket more h x rest d))

-- ---- over a plan

tells_most : (a b : ℕ) → a ≤ b → leb a b ≡ true
tells_most a b h = grind (arith, nat_tests)

tells_below : (a b : ℕ) → a < b → ltb a b ≡ true
tells_below a b h = grind (arith, nat_tests)

and_first : (s t : Bool) → (s && t) ≡ true → s ≡ true
and_first true t h = refl
and_first false t h = absurd (cc)

and_second : (s t : Bool) → (s && t) ≡ true → t ≡ true
and_second true t h = h
and_second false t h = absurd (cc)

is_below : (a b : ℕ) → ltb a b ≡ true → a < b
is_below a b h = grind (arith, nat_tests)

drop_map : (i : ℕ) (ts : List Task) → drop i (elements_left ts) ≡ elements_left (drop i ts)
drop_map zero [] = refl
drop_map zero (t ∷ ts) = refl
drop_map (suc i) [] = refl
drop_map (suc i) (t ∷ ts) = drop_map i ts

drop_in : (xs : List ℕ) (i e : ℕ) (rest : List ℕ) → drop i xs ≡ e ∷ rest → Contains xs e
drop_in [] zero e rest is = absurd (cc)
drop_in [] (suc i) e rest is = absurd (cc)
drop_in (x ∷ xs) zero e rest is = let here : x ≡ e = cc in subst (λ (k : ℕ). Contains (x ∷ xs) k) here (contains_here x xs)
drop_in (x ∷ xs) (suc i) e rest is = contains_there x xs (drop_in xs i e rest is)

module _ (p : PlanView) (order : Level) (axioms : Axioms p) (linear : IsLinear p order) where
  exit_true : (c : Component) → Contains p.components c → exits p c.exit ≡ true
  exit_true c of =
      let at = exit_at p c axioms of in
      let from : p.points ≤ c.exit = omega (arith, at) in
      let to : c.exit < end_of p = omega (arith, at, of.1) in
      let low = tells_most p.points c.exit from in
      let high = tells_below c.exit (end_of p) to in
      rw (low, high) refl

  run_task : (e : ℕ) → Does order (Run e) → exits p e ≡ false
  run_task e d = not_true (exits p e) (λ exit.
      let c = component_of p e in
      let i = has_component p order axioms linear c (of_exit p e exit) in
      no_exit order e (order_once p order axioms linear) d (subst (λ (x : ℕ). IsExit order x) (exit_is p e axioms exit) (has_exit order c.head c.exit i)))

  exit_task : (h x : ℕ) (rest : Level) → Does order (Exit h x rest) → IsTask (shape_of p) (Exit h x rest)
  exit_task h x rest d =
      let found = linear.drawn (bracket_of h x rest) (does_bracket order h x rest d) in
      let c = found.0 in
      let of = found.1 in
      let around = found.2 in
      let exit : exits p x ≡ true = ap (exits p) around.exit ∙ exit_true c of in
      let same : component_of p x ≡ c = same_exit p (component_of p x) c axioms (of_exit p x exit) of (exit_is p x axioms exit ∙ around.exit) in
      let inside : (u : ℕ) → holds p x u ≡ has u (h ∷ elements_of rest) = λ u. bool_same (holds p x u) (has u (h ∷ elements_of rest))
      (λ t.
      let below = is_below u p.elements (and_first (ltb u p.elements) (is_inside p (component_of p x) u) (and_second (exits p x) (ltb u p.elements && is_inside p (component_of p x) u) t)) in
      let member : has u (members_of p (component_of p x)) ≡ true = members_are p (component_of p x) u axioms (of_exit p x exit) below ∙ sym (holds_is p x u exit below) ∙ t in
      has_of u (h ∷ elements_of rest) ((around.members u).1 (subst (λ (k : Component). Inside p k u) same (of_has u (members_of p (component_of p x)) member))))
      (λ t.
      let is_member = subst (λ (k : Component). Inside p k u) (sym same) ((around.members u).0 (of_has u (h ∷ elements_of rest) t)) in
      let below = (stands_inside p (component_of p x) u axioms (of_exit p x exit) is_member).within in
      holds_is p x u exit below ∙ sym (members_are p (component_of p x) u axioms (of_exit p x exit) below) ∙ has_of u (members_of p (component_of p x)) is_member) in
      (exit, λ u. inside u ∙ ap (λ (us : List ℕ). has u (h ∷ us)) (sym (level_to_do rest)))

  is_task : (t : Task) → Does order t → IsTask (shape_of p) t
  is_task (Run e) d = run_task e d
  is_task (Exit h x rest) d = exit_task h x rest d

  apart : Apart (elements_of order)
  apart = apart_of (elements_of order) linear.once

  placed : (i : ℕ) (t : Task) (left : List Task) → drop i (to_do order []) ≡ t ∷ left → IsPlaced (shape_of p) t left
  placed i t left is =
      let e : ℕ = element_of t in
      let at : drop i (elements_of order) ≡ e ∷ elements_left left = ap (drop i) (sym (level_to_do order)) ∙ drop_map i (to_do order []) ∙ ap elements_left is in
      let found = drop_in (elements_of order) i e (elements_left left) at in
      record {
        in_range = within e found;
        once = once_at (elements_of order) i e (elements_left left) apart at;
        forward = λ u h. gone (elements_of order) i u e (elements_left left) apart (ahead_after order u e (precedes_ahead p order axioms linear u e (One (axioms.to_successor u e (of_has u (predecessors_of p e) h))))) at;
        is_task = is_task t (by (does_at order [] i t left is));
      }
    where
      within : (e : ℕ) → Contains (elements_of order) e → e < p.elements
      within e found = subst (λ (k : ℕ). k < p.elements) found.2 (linear.within found.0 e found.1)

      by : Does order t ⊎ ((j : ℕ) × (drop j [] ≡ t ∷ left)) → Does order t
      by (inl d) = d
      by (inr q) = absurd (no_drop q.0 q.1)
        where
          no_drop : (j : ℕ) → drop j [] ≡ t ∷ left → ⊥
          no_drop zero e = cc
          no_drop (suc j) e = cc

  order_of : IsOrderOf (shape_of p) order
  order_of = record {
    every = λ u below. ap (has u) (level_to_do order) ∙ has_of u (elements_of order) (linear.every u below);
    placed = placed;
  }

pub linear_orders : LinearOrdersAreOrders
linear_orders p order axioms linear = order_of p order axioms linear
