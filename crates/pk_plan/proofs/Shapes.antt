-- The shape of a plan.
use Rattle.std.proofs.Common.{◌≡◌, ◌≢◌, ℕ, zero, suc, ◌<◌, ◌≤◌, ◌+◌, ◌-◌, ◌==◌, ◌||◌, ◌&&◌, inl, inr, List, [], ◌∷◌, length, get_or, arith, refl, ap, sym, subst, ◌∙◌, Contains, Bool, true, false}
use Rattle.std.proofs.Math.Dec.{leb, ltb}
use Rattle.std.proofs.lemmas.Bool.{eq-eqb}
use Rattle.std.proofs.lemmas.Bool.Decides.{eqb_tells, nat_tests}
use Rattle.std.proofs.lemmas.List.{get_or_default}
use Rattle.pk_plan.specs.declared.components.Component.{Component}
use Rattle.pk_plan.specs.Plans.{PlanView, end_of, predecessors_of, successors_of, Precedes, One, More, Inside, is_inside}
use Rattle.pk_plan.specs.Axioms.{Axioms}
use Rattle.pk_plan.specs.Shape.{has, Before, one, more, component_of, exits, holds, shape_of, ShapesMeet}
use Rattle.pk_plan.proofs.PlanLemmas.{Of, exit_at, head_inside, exit_inside, acyclic, constrains_from, is_inside_tells, nested_or_apart, stands_inside}

or_right : (t u : Bool) → u ≡ true → (t || u) ≡ true
or_right true u h = refl
or_right false u h = h

has_by : (u w : ℕ) (ws : List ℕ) → (k : ℕ) → k < suc (length ws) → get_or (w ∷ ws) k u ≡ u → (Contains ws u → has u ws ≡ true) → has u (w ∷ ws) ≡ true
has_by u w ws zero in_range is rest = rw (eq-eqb u w (sym is)) refl
has_by u w ws (suc k) in_range is rest = or_right (u == w) (has u ws) (rest (k, omega arith, is))

has_of : (u : ℕ) (ws : List ℕ) → Contains ws u → has u ws ≡ true
has_of u [] c = absurd (omega (arith, c.1))
has_of u (w ∷ ws) c = has_by u w ws c.0 c.1 c.2 (has_of u ws)

of_by : (u w : ℕ) (ws : List ℕ) (t : Bool) → (u == w) ≡ t → (t || has u ws) ≡ true → (has u ws ≡ true → Contains ws u) → Contains (w ∷ ws) u
of_by u w ws true is h rest = (0, omega arith, let told = eqb_tells u w in sym (of_eq u w is))
  where
    of_eq : (a b : ℕ) → (a == b) ≡ true → a ≡ b
    of_eq a b e = grind (arith, nat_tests)
of_by u w ws false is h rest = let c = rest h in (suc c.0, omega (arith, c.1), c.2)

of_has : (u : ℕ) (ws : List ℕ) → has u ws ≡ true → Contains ws u
of_has u [] h = absurd (cc)
of_has u (w ∷ ws) h = of_by u w ws (u == w) refl h (of_has u ws)

pub bool_same : (s t : Bool) → (s ≡ true → t ≡ true) → (t ≡ true → s ≡ true) → s ≡ t
bool_same true t f g = sym (f refl)
bool_same false true f g = g refl
bool_same false false f g = refl

and_both : (s t : Bool) → (s && t) ≡ true → (s ≡ true) × (t ≡ true)
and_both true t h = (refl, h)
and_both false t h = absurd (cc)

both_and : (s t : Bool) → s ≡ true → t ≡ true → (s && t) ≡ true
both_and s t e f = rw (e, f) refl

below_tells : (a b : ℕ) → ltb a b ≡ true → a < b
below_tells a b h = grind (arith, nat_tests)

tells_below : (a b : ℕ) → a < b → ltb a b ≡ true
tells_below a b h = grind (arith, nat_tests)

most_tells : (a b : ℕ) → leb a b ≡ true → a ≤ b
most_tells a b h = grind (arith, nat_tests)

tells_most : (a b : ℕ) → a ≤ b → leb a b ≡ true
tells_most a b h = grind (arith, nat_tests)

pub of_exit : (p : PlanView) (x : ℕ) → exits p x ≡ true → Of p (component_of p x)
of_exit p x h =
    let b = and_both (leb p.points x) (ltb x (end_of p)) h in
    let from = most_tells p.points x b.0 in
    let before = below_tells x (end_of p) b.1 in
    let in_range : x - p.points < length p.components = omega (arith, from, before) in
    (x - p.points, in_range, get_or_default p.components (x - p.points) _ _ in_range)

pub exit_is : (p : PlanView) (x : ℕ) → Axioms p → (h : exits p x ≡ true) → (component_of p x).exit ≡ x
unfolding of_exit
exit_is p x axioms h =
    let b = and_both (leb p.points x) (ltb x (end_of p)) h in
    let from = most_tells p.points x b.0 in
    let at : (component_of p x).exit ≡ p.points + (x - p.points) = exit_at p (component_of p x) axioms (of_exit p x h) in
    omega (arith, from, at)

record In (p : PlanView) (x u : ℕ) : Type 0 where
  is_exit : exits p x ≡ true
  of : Of p (component_of p x)
  exit : (component_of p x).exit ≡ x
  inside : Inside p (component_of p x) u

told : (p : PlanView) (x u : ℕ) → Axioms p → holds p x u ≡ true → In p x u
told p x u axioms h =
    let b = and_both (exits p x) (ltb u p.elements && is_inside p (component_of p x) u) h in
    let d = and_both (ltb u p.elements) (is_inside p (component_of p x) u) b.1 in
    record { is_exit = b.0; of = of_exit p x b.0; exit = exit_is p x axioms b.0; inside = (is_inside_tells p (component_of p x) u axioms (of_exit p x b.0) (below_tells u p.elements d.0)).0 d.1 }

tell : (p : PlanView) (x u : ℕ) → Axioms p → exits p x ≡ true → Inside p (component_of p x) u → holds p x u ≡ true
tell p x u axioms e i =
    let of = of_exit p x e in
    let at = (stands_inside p (component_of p x) u axioms of i).within in
    both_and (exits p x) (ltb u p.elements && is_inside p (component_of p x) u) e
    (both_and (ltb u p.elements) (is_inside p (component_of p x) u) (tells_below u p.elements at) ((is_inside_tells p (component_of p x) u axioms of at).1 i))

before_of : (p : PlanView) (a b : ℕ) → Axioms p → Precedes p a b → Before (shape_of p) a b
before_of p a b axioms (One c) = one (has_of a (predecessors_of p b) (axioms.to_predecessor a b c))
before_of p a b axioms (More {b = w} m c) = more (before_of p a w axioms m) (has_of w (predecessors_of p b) (axioms.to_predecessor w b c))

of_before : (p : PlanView) (a b : ℕ) → Axioms p → Before (shape_of p) a b → Precedes p a b
of_before p a b axioms (one h) = One (axioms.to_successor a b (of_has a (predecessors_of p b) h))
of_before p a b axioms (more {v = w} m h) = More (of_before p a w axioms m) (axioms.to_successor w b (of_has w (predecessors_of p b) h))

pub shapes : ShapesMeet
shapes p axioms = record {
  dual = λ u v. bool_same (has v (successors_of p u)) (has u (predecessors_of p v)) (λ h. has_of u (predecessors_of p v) (axioms.to_predecessor u v (of_has v (successors_of p u) h))) (λ h. has_of v (successors_of p u) (axioms.to_successor u v (of_has u (predecessors_of p v) h)));
  below = λ u v h. axioms.within u v (of_has v (successors_of p u) h);
  above = λ u v h. constrains_from p u v axioms (of_has v (successors_of p u) h);
  acyclic = λ u b. acyclic p u axioms (of_before p u u axioms b);
  last_after = λ u below ne. before_of p u (end_of p) axioms (axioms.before_end u (let n = axioms.counted in omega (arith, below, ne, n)));
  exit_inside = λ x u h. (told p x u axioms h).is_exit;
  head_inside = λ x e. tell p x (component_of p x).head axioms e (head_inside p (component_of p x) axioms (of_exit p x e));
  before_exit = λ x u h. let i = told p x u axioms h in before_of p u x axioms (subst (λ (y : ℕ). Precedes p u y) i.exit (axioms.before_exit (component_of p x) u i.of i.inside));
  head_before = λ x u h ne. let i = told p x u axioms h in before_of p (component_of p x).head u axioms (axioms.after_head (component_of p x) u i.of i.inside ne);
  stays = λ x u v h s ne. let i = told p x u axioms h in elim (axioms.stays (component_of p x) u v i.of i.inside (of_has v (successors_of p u) s)) [
    | inl j ↦ tell p x v axioms i.is_exit j
    | inr e ↦ absurd (ne (e ∙ i.exit))
  ];
  laminar = laminar;
}
  where
    laminar : (x y u : ℕ) → holds p x u ≡ true → holds p y u ≡ true → x ≢ y → holds p x y ≡ false → holds p y x ≡ true
    laminar x y u hx hy ne out =
        let i = told p x u axioms hx in
        let j = told p y u axioms hy in
        let c = component_of p x in
        let d = component_of p y in
        let apart : c ≢ d = (λ (same : c ≡ d). ne (sym i.exit ∙ ap (λ (k : Component). k.exit) same ∙ j.exit)) in
        elim (nested_or_apart p c d u axioms i.of j.of i.inside j.inside) [
          | inl wide ↦ (let in_it = tell p x y axioms i.is_exit (subst (λ (k : ℕ). Inside p c k) j.exit (exit_inside p c d axioms i.of j.of apart (wide d.head (head_inside p d axioms j.of)))) in absurd (cc))
          | inr wide ↦ tell p y x axioms j.is_exit (subst (λ (k : ℕ). Inside p d k) i.exit (exit_inside p d c axioms j.of i.of (λ e. apart (sym e)) (wide c.head (head_inside p c axioms i.of))))
        ]
