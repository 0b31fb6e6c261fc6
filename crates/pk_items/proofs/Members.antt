-- The points of an item, from the members of its component.
use Rattle.std.proofs.Common.{◌≡◌, ◌≢◌, ℕ, ◌+◌, ◌-◌, ◌<◌, ◌≤◌, ◌==◌, inl, inr, List, [], ◌∷◌, ◌++◌, append-nil, cond, length, get_or, take, drop, filter, Bool, true, false, ◌||◌, refl, ap, sym, subst, ◌∙◌, arith, Contains}
use Rattle.std.proofs.Math.Dec.{ltb}
use Rattle.std.specs.List.{AllPairs, range_with_len}
use Rattle.std.specs.List.Sorted.{IsStrictlyIncreasing, IsPermutation, IsNonDecreasing}
use Rattle.std.proofs.lemmas.Bool.{cases_lt}
use Rattle.std.proofs.lemmas.List.{get_or_default, get_or-take, get_or-drop, length-take, length-drop}
use Rattle.std.proofs.lemmas.List.Elements.{filter_more}
use Rattle.std.proofs.lemmas.List.Kept.{AllPairs-filter, IsStrictlyIncreasing-filter}
use Rattle.std.proofs.lemmas.List.Sorted.{Contains-permutation, IsPermutation-sym}
use Rattle.pk_plan.specs.declared.components.Component.{Component}
use Rattle.pk_plan.specs.Plans.{PlanView, end_of, place_of, members_of}
use Rattle.pk_plan.specs.Axioms.{Axioms}
use Rattle.pk_plan.specs.Shape.{has, holds, exits, component_of}
use Rattle.pk_plan.proofs.PlanLemmas.{Of, end_within, exit_at, stands_inside, is_inside_tells}
use Rattle.pk_core.proofs.Basics.{cases, same, itself}
use Rattle.pk_core.proofs.Plan_shapes.{has_of, of_has}
use Rattle.pk_items.specs.Items.{top_of, EndsItem, points_in}
use Rattle.pk_items.proofs.Outermost.{holding, holds_by, under_top, one_top, ends_under, component_by, exits_by}
use Rattle.pk_items.proofs.Numbers.{below, is_below, not_below, is_between}
use Rattle.pk_items.proofs.Rising.{has_filter, filter_has, range_has, has_range, rising_same, range_rises, Once, sorted_rises, once_permuted, once_by_pairs}

abbrev pub point_members : PlanView → Component → List ℕ
point_members p c = filter (λ u. ltb u p.points) (members_of p c)

points_rise : (p : PlanView) (x : ℕ) → IsStrictlyIncreasing (points_in p x)
points_rise p x = IsStrictlyIncreasing-filter (λ e. top_of p e == x) (range_with_len 0 p.points) (range_rises p.points)

-- a point of the item, and back
pub in_points : (p : PlanView) (x u : ℕ) → u < p.points → top_of p u ≡ x → has u (points_in p x) ≡ true
in_points p x u low is = filter_has (λ e. top_of p e == x) u (range_with_len 0 p.points) (ap (λ (k : ℕ). k == x) is ∙ itself x) (range_has p.points u low)

pub points_have : (p : PlanView) (x u : ℕ) → has u (points_in p x) ≡ true → (u < p.points) × (top_of p u ≡ x)
points_have p x u h = let both = has_filter (λ e. top_of p e == x) u (range_with_len 0 p.points) h in (has_range p.points u both.1, same (top_of p u) x both.0)

point_low : (p : PlanView) → Axioms p → (u : ℕ) → u < p.points → u < p.elements
point_low p axioms u low = omega (arith, low, axioms.counted)

-- ---- a vertex

one_rises : (x : ℕ) → IsStrictlyIncreasing (x ∷ [])
one_rises x k l = absurd (omega (arith, l))

-- what isn't an exit and isn't END is a point
vertex_point : (p : PlanView) → Axioms p → (x : ℕ) → EndsItem p x → exits p x ≡ false → x < p.points
vertex_point p axioms x ends none =
    let low = ends.element in
    let other = ends.not_end in
    let counted = axioms.counted in
    elim (cases_lt x p.points) [
      | inl point ↦ point
      | inr past ↦ absurd (let e : exits p x ≡ true = is_between p.points x (end_of p) past (omega (arith, low, other, counted)) in cc)
    ]

pub vertex_alone : (p : PlanView) → Axioms p → (x : ℕ) → EndsItem p x → exits p x ≡ false → (x ∷ []) ≡ points_in p x
vertex_alone p axioms x ends none =
    rising_same (x ∷ []) (points_in p x) (one_rises x) (points_rise p x)
    (λ u h. elim (cases (u == x)) [
      | inl q ↦ subst (λ (k : ℕ). has k (points_in p x) ≡ true) (sym (same u x q)) (in_points p x x (vertex_point p axioms x ends none) ends.outermost)
      | inr q ↦ absurd (let z : (false || false) ≡ true = rw q at h in cc)
    ])
    (λ u h. let at = points_have p x u h in elim (under_top p axioms x u (point_low p axioms u at.0) at.1) [
      | inl is ↦ (let r = ap (λ (k : ℕ). k == x) is ∙ itself x in rw r refl)
      | inr i ↦ absurd (let held = holding p axioms x u i in let e : exits p x ≡ true = subst (λ (k : ℕ). exits p k ≡ true) held.exit (exits_by p axioms held.component held.of) in cc)
    ])

-- ---- a component

members_apart : (p : PlanView) → Axioms p → (c : Component) → Of p c → AllPairs (λ a b. a ≢ b) (members_of p c)
members_apart p axioms c of i j d l in_range =
    let low_end = end_within p c axioms of in
    let taken = length-take (c.end - c.first) (drop c.first p.listing) in
    let dropped = length-drop c.first p.listing in
    let listed = axioms.listed in
    let j_low : j < c.end - c.first = omega (arith, in_range, taken) in
    let at : (k : ℕ) → k < c.end - c.first → get_or (members_of p c) k d ≡ get_or p.listing (c.first + k) 0 = λ k k_low.
    get_or-take (c.end - c.first) (drop c.first p.listing) k d k_low ∙ get_or-drop c.first p.listing k d ∙ get_or_default p.listing (c.first + k) d 0 (omega (arith, k_low, low_end, listed)) in
    λ q.
    let z : get_or p.listing (c.first + i) 0 ≡ get_or p.listing (c.first + j) 0 = sym (at i (omega (arith, l, j_low))) ∙ q ∙ at j j_low in
    let place = sym (axioms.place_at (c.first + i) (omega (arith, l, j_low, low_end))) ∙ ap (place_of p) z ∙ axioms.place_at (c.first + j) (omega (arith, j_low, low_end)) in
    omega (arith, place, l)

pub members_once : (p : PlanView) → Axioms p → (c : Component) → Of p c → Once (point_members p c)
members_once p axioms c of =
    once_by_pairs (point_members p c) (AllPairs-filter (λ a b. a ≢ b) (λ u. ltb u p.points) (members_of p c) (members_apart p axioms c of))

pub sorted_members : (p : PlanView) → Axioms p → (x : ℕ) (c : Component) (ys : List ℕ) → EndsItem p x → Of p c → c.exit ≡ x → IsPermutation (point_members p c) ys → IsNonDecreasing ys → ys ≡ points_in p x
sorted_members p axioms x c ys ends of exit moved up =
    rising_same ys (points_in p x) (sorted_rises ys up (once_permuted (point_members p c) ys moved (members_once p axioms c of))) (points_rise p x)
    (λ u h.
    let back = has_of u (point_members p c) (Contains-permutation ys (point_members p c) u (IsPermutation-sym (point_members p c) ys moved) (of_has u ys h)) in
    let both = has_filter (λ v. ltb v p.points) u (members_of p c) back in
    let inside = of_has u (members_of p c) both.1 in
    let low = (stands_inside p c u axioms of inside).within in
    let held : holds p x u ≡ true = subst (λ (k : ℕ). holds p k u ≡ true) exit (holds_by p axioms c of u low ((is_inside_tells p c u axioms of low).1 inside)) in
    in_points p x u (below u p.points both.0) (one_top p axioms x u low (ends_under p axioms x u ends (inr held))))
    (λ u h.
    let at = points_have p x u h in
    has_of u ys (Contains-permutation (point_members p c) ys u moved (of_has u (point_members p c)
    (filter_has (λ v. ltb v p.points) u (members_of p c) (is_below u p.points at.0) (elim (under_top p axioms x u (point_low p axioms u at.0) at.1) [
      | inl is ↦ absurd (let e = exit_at p c axioms of in let l = at.0 in omega (arith, e, exit, is, l))
      | inr i ↦ (
          let held = holding p axioms x u i in
          let same_c : held.component ≡ c = sym (component_by p axioms held.component held.of) ∙ ap (component_of p) (held.exit ∙ sym exit) ∙ component_by p axioms c of in
          has_of u (members_of p c) (subst (λ (k : Component). Contains (members_of p k) u) same_c ((is_inside_tells p held.component u axioms held.of held.within).0 held.inside)))
    ])))))

-- ---- one member more

pub one_kept : (points : ℕ) (xs kept new : List ℕ) (k : ℕ) → k < length xs → kept ≡ filter (λ u. ltb u points) (take k xs) → get_or xs k 0 < points → new ≡ kept ++ get_or xs k 0 ∷ [] → new ≡ filter (λ u. ltb u points) (take (k + 1) xs)
one_kept points xs kept new k in_range is low pushed =
    let passes : ltb (get_or xs k 0) points ≡ true = is_below (get_or xs k 0) points low in
    pushed ∙ ap (λ (ys : List ℕ). ys ++ get_or xs k 0 ∷ []) is ∙ ap (λ (t : Bool). filter (λ u. ltb u points) (take k xs) ++ cond t (get_or xs k 0 ∷ []) []) (sym passes)
    ∙ sym (filter_more (λ u. ltb u points) xs k 0 in_range)

pub one_passed : (points : ℕ) (xs kept new : List ℕ) (k : ℕ) → k < length xs → kept ≡ filter (λ u. ltb u points) (take k xs) → points ≤ get_or xs k 0 → new ≡ kept → new ≡ filter (λ u. ltb u points) (take (k + 1) xs)
one_passed points xs kept new k in_range is high left =
    let fails : ltb (get_or xs k 0) points ≡ false = not_below (get_or xs k 0) points high in
    left ∙ is ∙ sym (append-nil (filter (λ u. ltb u points) (take k xs))) ∙ ap (λ (t : Bool). filter (λ u. ltb u points) (take k xs) ++ cond t (get_or xs k 0 ∷ []) []) (sym fails)
    ∙ sym (filter_more (λ u. ltb u points) xs k 0 in_range)
