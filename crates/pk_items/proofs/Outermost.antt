-- The last element of an element's item.
use Rattle.std.proofs.Common.{◌≡◌, ◌≢◌, ℕ, zero, suc, ◌<◌, ◌≤◌, ◌&&◌, ◌==◌, ◌⊎◌, inl, inr, List, [], ◌∷◌, length, get_or, max, Bool, true, false, refl, ap, sym, subst, ◌∙◌, arith, Contains}
use Rattle.std.proofs.Math.Dec.{leb, ltb}
use Rattle.std.proofs.lemmas.Bool.{cases_lt}
use Rattle.pk_plan.specs.declared.components.Component.{Component}
use Rattle.pk_plan.specs.Plans.{PlanView, end_of, place_of, is_inside}
use Rattle.pk_plan.specs.Axioms.{Axioms}
use Rattle.pk_plan.specs.Shape.{holds, exits, component_of, shape_of}
use Rattle.pk_plan.proofs.PlanLemmas.{Of, exit_at, exit_within, end_at, first_at, head_within, head_is_point, first_before_end, same_place, same_exit, is_inside_tells}
use Rattle.pk_plan.proofs.Shapes.{of_exit, exit_is, shapes}
use Rattle.pk_core.proofs.Basics.{cases, not_true, same, itself}
use Rattle.pk_items.specs.Items.{last_place, top_of, EndsItem}
use Rattle.pk_items.specs.Over.{IsUnder}
use Rattle.pk_items.specs.Laws.{TopsAreOutermost}
use Rattle.pk_items.proofs.Numbers.{and_parts, below, is_below, between, is_between, max_first, max_second}

-- ---- components that hold an element, by their exits and by places

pub record Holding (p : PlanView) (y e : ℕ) : Type 0 where
  pub component : Component
  pub of : Of p component
  pub exit : component.exit ≡ y
  pub within : e < p.elements
  pub inside : is_inside p component e ≡ true

pub holding : (p : PlanView) → Axioms p → (y e : ℕ) → holds p y e ≡ true → Holding p y e
holding p axioms y e h =
    let two = and_parts (exits p y) (ltb e p.elements && is_inside p (component_of p y) e) h in
    let more = and_parts (ltb e p.elements) (is_inside p (component_of p y) e) two.1 in
    record { component = component_of p y; of = of_exit p y two.0; exit = exit_is p y axioms two.0; within = below e p.elements more.0; inside = more.1 }

pub exits_by : (p : PlanView) → Axioms p → (c : Component) → Of p c → exits p c.exit ≡ true
exits_by p axioms c of = let at = exit_at p c axioms of in is_between p.points c.exit (end_of p) (omega (arith, at)) (omega (arith, at, of.1))

pub component_by : (p : PlanView) → Axioms p → (c : Component) → Of p c → component_of p c.exit ≡ c
component_by p axioms c of =
    let e = exits_by p axioms c of in
    same_exit p (component_of p c.exit) c axioms (of_exit p c.exit e) of (exit_is p c.exit axioms e)

both : (s t u : Bool) → s ≡ true → t ≡ true → u ≡ true → (s && (t && u)) ≡ true
both s t u f g h = rw (f, g, h) refl

pub holds_by : (p : PlanView) → Axioms p → (c : Component) → Of p c → (e : ℕ) → e < p.elements → is_inside p c e ≡ true → holds p c.exit e ≡ true
holds_by p axioms c of e low inside =
    both (exits p c.exit) (ltb e p.elements) (is_inside p (component_of p c.exit) e) (exits_by p axioms c of) (is_below e p.elements low)
    (ap (λ (d : Component). is_inside p d e) (component_by p axioms c of) ∙ inside)

-- ---- the last of the places

first_or : (c : Component) (cs : List Component) (d : Component) → Contains (c ∷ cs) d → (d ≡ c) ⊎ Contains cs d
first_or c cs d has = by has.0 has.1 has.2
  where
    by : (k : ℕ) → k < suc (length cs) → get_or (c ∷ cs) k d ≡ d → (d ≡ c) ⊎ Contains cs d
    by zero in_range is = inl (sym is)
    by (suc k) in_range is = inr (k, omega (arith, in_range), is)

later : (c : Component) (cs : List Component) (d : Component) → Contains cs d → Contains (c ∷ cs) d
later c cs d has = (suc has.0, omega (arith, has.1), has.2)

-- either no component holds the element, or one that ends last does
pub data Found (p : PlanView) (e : ℕ) (cs : List Component) : Type 0 where
  alone : last_place p e cs ≡ place_of p e → ((c : Component) → Contains cs c → is_inside p c e ≡ false) → Found p e cs
  within : (c : Component) → Contains cs c → is_inside p c e ≡ true → last_place p e cs ≡ c.end → ((d : Component) → Contains cs d → is_inside p d e ≡ true → d.end ≤ c.end) → Found p e cs

pub found : (p : PlanView) (e : ℕ) (cs : List Component) → Found p e cs
found p e [] = alone refl (λ c has. absurd (omega (arith, has.1)))
found p e (c ∷ cs) = elim (cases (is_inside p c e)) [
  | inl is ↦ holds_it is (found p e cs)
  | inr absent ↦ passes absent (found p e cs)
]
  where
    holds_it : is_inside p c e ≡ true → Found p e cs → Found p e (c ∷ cs)
    holds_it is (alone q none) =
        let at = between c.first (place_of p e) c.end is in
        within c (0, omega arith, refl) is (rw is (ap (max c.end) q ∙ max_first c.end (place_of p e) (omega (arith, at.1))))
        (λ d has i. elim (first_or c cs d has) [
          | inl s ↦ (let z = ap (λ (k : Component). k.end) s in omega (arith, z))
          | inr more ↦ absurd (let n = none d more in cc)
        ])
    holds_it is (within b of_b i q most) = elim (cases_lt c.end b.end) [
      | inl less ↦ within b (later c cs b of_b) i (rw is (ap (max c.end) q ∙ max_second c.end b.end (omega (arith, less))))
          (λ d has j. elim (first_or c cs d has) [
            | inl s ↦ (let z = ap (λ (k : Component). k.end) s in omega (arith, z, less))
            | inr more ↦ most d more j
          ])
      | inr at_most ↦ within c (0, omega arith, refl) is (rw is (ap (max c.end) q ∙ max_first c.end b.end at_most))
          (λ d has j. elim (first_or c cs d has) [
            | inl s ↦ (let z = ap (λ (k : Component). k.end) s in omega (arith, z))
            | inr more ↦ (let m = most d more j in omega (arith, m, at_most))
          ])
    ]

    passes : is_inside p c e ≡ false → Found p e cs → Found p e (c ∷ cs)
    passes absent (alone q none) = alone (rw absent q) (λ d has. elim (first_or c cs d has) [
      | inl s ↦ ap (λ (k : Component). is_inside p k e) s ∙ absent
      | inr more ↦ none d more
    ])
    passes absent (within b of_b i q most) = within b (later c cs b of_b) i (rw absent q) (λ d has j. elim (first_or c cs d has) [
      | inl s ↦ absurd (let z = ap (λ (k : Component). is_inside p k e) s in cc)
      | inr more ↦ most d more j
    ])

-- ---- a component that holds the exit of another holds what that holds

wider : (p : PlanView) → Axioms p → (c d : Component) → Of p c → Of p d → (e : ℕ) → e < p.elements → is_inside p c e ≡ true → is_inside p d c.exit ≡ true → (is_inside p d e ≡ true) × (c.end < d.end)
wider p axioms c d of_c of_d e low in_c in_d =
    let at_e = between c.first (place_of p e) c.end in_c in
    let at_x = between d.first (place_of p c.exit) d.end in_d in
    let end_c = end_at p c axioms of_c in
    let first_c = first_at p c axioms of_c in
    let first_d = first_at p d axioms of_d in
    let order_c = first_before_end p c axioms of_c in
    let ends : c.end < d.end = omega (arith, end_c, at_x.1) in
    let firsts : d.first ≤ c.first = elim (cases_lt c.first d.first) [
      | inr at_most ↦ at_most
      | inl less ↦ elim (cases_lt d.first c.end) [
        | inl inner ↦ absurd (let n = axioms.nested c d of_c of_d less inner in omega (arith, n, ends))
        | inr past ↦ absurd (
            let same_at : place_of p d.head ≡ place_of p c.exit = omega (arith, past, at_x.0, end_c, first_d) in
            let is = same_place p d.head c.exit axioms (head_within p d axioms of_d) (exit_within p c axioms of_c) same_at in
            let point = head_is_point p d axioms of_d in
            let exit = exit_at p c axioms of_c in
            omega (arith, is, point, exit))
      ]
    ] in
    (is_between d.first (place_of p e) d.end (omega (arith, firsts, at_e.0)) (omega (arith, at_e.1, ends)), ends)

-- ---- the last element

pub record Top (p : PlanView) (e : ℕ) : Type 0 where
  pub low : top_of p e < p.elements
  pub under : IsUnder (shape_of p) (top_of p e) e

pub top_under : (p : PlanView) → Axioms p → (e : ℕ) → e < p.elements → Top p e
top_under p axioms e low = by (found p e p.components)
  where
    by : Found p e p.components → Top p e
    by (alone q none) =
        let is : top_of p e ≡ e = ap (λ (at : ℕ). get_or p.listing at 0) q ∙ axioms.at_place e low in
        record {
          low = subst (λ (x : ℕ). x < p.elements) (sym is) low;
          under = record {
            outermost = λ y. not_true (holds p y (top_of p e)) (λ h.
                let held = holding p axioms y e (subst (λ (x : ℕ). holds p y x ≡ true) is h) in
                absurd (let n = none held.component held.of in let i = held.inside in cc));
            under = inl (sym is);
          };
        }
    by (within c of_c i q most) =
        let is : top_of p e ≡ c.exit = ap (λ (at : ℕ). get_or p.listing at 0) (q ∙ end_at p c axioms of_c) ∙ axioms.at_place c.exit (exit_within p c axioms of_c) in
        record {
          low = subst (λ (x : ℕ). x < p.elements) (sym is) (exit_within p c axioms of_c);
          under = record {
            outermost = λ y. not_true (holds p y (top_of p e)) (λ h.
                let held = holding p axioms y c.exit (subst (λ (x : ℕ). holds p y x ≡ true) is h) in
                let wide = wider p axioms c held.component of_c held.of e low i held.inside in
                absurd (let m = most held.component held.of wide.0 in let w = wide.1 in omega (arith, m, w)));
            under = inr (subst (λ (x : ℕ). holds p x e ≡ true) (sym is) (holds_by p axioms c of_c e low i));
          };
        }

pub one_top : (p : PlanView) → Axioms p → (x e : ℕ) → e < p.elements → IsUnder (shape_of p) x e → top_of p e ≡ x
one_top p axioms x e low u =
    let t = (top_under p axioms e low).under in
    elim u.under [
      | inl ex ↦ elim t.under [
        | inl et ↦ sym et ∙ ex
        | inr i ↦ absurd (let o = u.outermost (top_of p e) in let j : holds p (top_of p e) x ≡ true = subst (λ (k : ℕ). holds p (top_of p e) k ≡ true) ex i in cc)
      ]
      | inr i ↦ elim t.under [
        | inl et ↦ absurd (let o = t.outermost x in let j : holds p x (top_of p e) ≡ true = subst (λ (k : ℕ). holds p x k ≡ true) et i in cc)
        | inr j ↦ elim (cases (top_of p e == x)) [
          | inl s ↦ same (top_of p e) x s
          | inr s ↦ absurd (
              let ne : top_of p e ≢ x = λ q. absurd (let z : (x == x) ≡ false = ap (λ (k : ℕ). k == x) (sym q) ∙ s in let r = itself x in cc) in
              let n = (shapes p axioms).laminar (top_of p e) x e j i ne (u.outermost (top_of p e)) in
              let o = t.outermost x in cc)
        ]
      ]
    ]

-- no component has END
end_alone : (p : PlanView) → Axioms p → IsUnder (shape_of p) (end_of p) (end_of p)
end_alone p axioms = record {
  outermost = λ y. not_true (holds p y (end_of p)) (λ h.
      let held = holding p axioms y (end_of p) h in
      axioms.end_outside held.component held.of ((is_inside_tells p held.component (end_of p) axioms held.of held.within).0 held.inside));
  under = inl refl;
}

end_low : (p : PlanView) → Axioms p → end_of p < p.elements
end_low p axioms = omega (arith, axioms.counted)

no_end_component : (p : PlanView) (e : ℕ) → holds p (end_of p) e ≡ true → ⊥
no_end_component p e h =
    let two = and_parts (exits p (end_of p)) (ltb e p.elements && is_inside p (component_of p (end_of p)) e) h in
    let more = and_parts (leb p.points (end_of p)) (ltb (end_of p) (end_of p)) two.0 in
    absurd (let l = below (end_of p) (end_of p) more.1 in omega (arith, l))

pub ends_item : (p : PlanView) → Axioms p → (e : ℕ) → e < end_of p → EndsItem p (top_of p e)
ends_item p axioms e low =
    let t = top_under p axioms e (omega (arith, low, axioms.counted)) in
    record {
      element = t.low;
      not_end = λ q. elim t.under.under [
        | inl et ↦ absurd (omega (arith, et, q, low))
        | inr i ↦ no_end_component p e (subst (λ (x : ℕ). holds p x e ≡ true) q i)
      ];
      outermost = one_top p axioms (top_of p e) (top_of p e) t.low (record { outermost = t.under.outermost; under = inl refl });
    }

-- what ends an item lies in no component
pub ends_under : (p : PlanView) → Axioms p → (x e : ℕ) → EndsItem p x → (e ≡ x) ⊎ (holds p x e ≡ true) → IsUnder (shape_of p) x e
ends_under p axioms x e ends under = record {
  outermost = subst (λ (k : ℕ). (y : ℕ) → holds p y k ≡ false) ends.outermost (top_under p axioms x ends.element).under.outermost;
  under = under;
}

pub under_top : (p : PlanView) → Axioms p → (x e : ℕ) → e < p.elements → top_of p e ≡ x → (e ≡ x) ⊎ (holds p x e ≡ true)
under_top p axioms x e low is = subst (λ (k : ℕ). (e ≡ k) ⊎ (holds p k e ≡ true)) is (top_under p axioms e low).under.under

pub tops_are_outermost : (p : PlanView) → Axioms p → TopsAreOutermost p
tops_are_outermost p axioms = record {
  within = λ e low. (top_under p axioms e low).low;
  under = λ e low. (top_under p axioms e low).under;
  one = one_top p axioms;
  has = λ x e ends low. ((λ is. under_top p axioms x e low is), (λ under. one_top p axioms x e low (ends_under p axioms x e ends under)));
  end = one_top p axioms (end_of p) (end_of p) (end_low p axioms) (end_alone p axioms);
  ends = ends_item p axioms;
}

-- all that a component holds has the top of its exit
pub member_top : (p : PlanView) → Axioms p → (x u : ℕ) → holds p x u ≡ true → top_of p u ≡ top_of p x
member_top p axioms x u h =
    let held = holding p axioms x u h in
    let low : x < p.elements = subst (λ (k : ℕ). k < p.elements) held.exit (exit_within p held.component axioms held.of) in
    let t = (top_under p axioms u held.within).under in
    sym (one_top p axioms (top_of p u) x low (record {
      outermost = t.outermost;
      under = elim t.under [
        | inl ut ↦ absurd (let o = t.outermost x in let j : holds p x (top_of p u) ≡ true = subst (λ (k : ℕ). holds p x k ≡ true) ut h in cc)
        | inr j ↦ elim (cases (x == top_of p u)) [
          | inl s ↦ inl (same x (top_of p u) s)
          | inr s ↦ inr (
              let ne : x ≢ top_of p u = λ q. absurd (let z : (x == x) ≡ false = ap (λ (k : ℕ). x == k) q ∙ s in let r = itself x in cc) in
              (shapes p axioms).laminar x (top_of p u) u h j ne (t.outermost x))
        ]
      ];
    }))
