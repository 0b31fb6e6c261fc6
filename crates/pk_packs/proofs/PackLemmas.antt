-- Packs and their edges.
use Rattle.std.proofs.Common.{◌≡◌, ◌<◌, ◌≤◌, ◌+◌, ◌⊎◌, ◌↔◌, inl, inr, ℕ, zero, suc, refl, ap, sym, ◌∙◌, subst, Bool, true, false, not, ◌&&◌, if◌then◌else◌, IsTrue, List, [], ◌∷◌, length, map, slice_index, slice_index_or, Contains, arith, cond, nat_le, nat_lt}
use Rattle.std.specs.List.{list_any, filter}
use Rattle.std.specs.List.Sorted.{IsStrictlyIncreasing}
use Rattle.std.proofs.lemmas.Bool.{cases_eq, both_ways, and_from, and_parts, not-true, false_from_ne_true, not_from_false, leb-true, ltb-true, le-leb, lt-ltb}
use Rattle.std.proofs.lemmas.List.{get_or_default, get_or-map}
use Rattle.std.proofs.lemmas.List.Folds.{Any-from_list_any, list_any_at}
use Rattle.pk_graph.specs.Graphs.{EdgeOf, PointOf, GraphOf, VariableOf, no_point, no_variable, point_at, variable_at}
use Rattle.pk_graph.specs.OctagonVariables.{is_asked_by, is_asked_on, is_asked_in, is_named_scalar, first_asked, octagon_variables_of}
use Rattle.pk_plan.specs.declared.components.Component.{Component}
use Rattle.pk_plan.specs.Plans.{PlanView, is_inside, place_of, Inside}
use Rattle.pk_plan.specs.Axioms.{Axioms}
use Rattle.pk_plan.proofs.PlanLemmas.{is_inside_tells, stands_inside, first_at, same_head, same_place, head_within}
use Rattle.pk_packs.specs.Belongs.{lies_in, lies_in_none, no_component, belongs}
use Rattle.pk_packs.specs.Packs.{with_edges, variables_over, packs_of, pack_count}
use Rattle.pk_packs.specs.Laws.{IsAskedOver, AreFirst}
use Rattle.pk_packs.proofs.EdgeLemmas.{is_asked_of, asked_at, length-with_edges}

-- ---- the first asked variables

abbrev wanted : List PointOf → ℕ → VariableOf → Bool
wanted ps x v = is_asked_in x ps && is_named_scalar v

-- x is asked for, and one of those that are numbered from k on
record IsWanted (ps : List PointOf) (k : ℕ) (vs : List VariableOf) (x : ℕ) : Type 0 where
  pub place : ℕ
  pub number : x ≡ k + place
  pub there : place < length vs
  pub wanted : wanted ps x (slice_index_or vs place no_variable) ≡ true

one_later : (ps : List PointOf) (k x : ℕ) (v : VariableOf) (vs : List VariableOf) → IsWanted ps (k + 1) vs x → IsWanted ps k (v ∷ vs) x
one_later ps k x v vs h = record { place = suc h.place; number = omega (arith, h.number); there = omega (arith, h.there); wanted = h.wanted }

each_at : (ps : List PointOf) (n k : ℕ) (vs : List VariableOf) (j x : ℕ) → j < length (first_asked ps n k vs) → slice_index_or (first_asked ps n k vs) j x ≡ x → IsWanted ps k vs x
unfolding first_asked
each_at ps zero k vs j x h is = absurd (omega (arith, h))
each_at ps (suc n) k [] j x h is = absurd (omega (arith, h))
each_at ps (suc n) k (v ∷ vs) j x h is = by (λ i. each_at ps n (k + 1) vs i x) (λ i. each_at ps (suc n) (k + 1) vs i x) (wanted ps k v) refl j h is
  where
    by : ((i : ℕ) → i < length (first_asked ps n (k + 1) vs) → slice_index_or (first_asked ps n (k + 1) vs) i x ≡ x → IsWanted ps (k + 1) vs x)
        → ((i : ℕ) → i < length (first_asked ps (suc n) (k + 1) vs) → slice_index_or (first_asked ps (suc n) (k + 1) vs) i x ≡ x → IsWanted ps (k + 1) vs x)
        → (b : Bool) → wanted ps k v ≡ b → (j : ℕ) → j < length (if b then k ∷ first_asked ps n (k + 1) vs else first_asked ps (suc n) (k + 1) vs)
        → slice_index_or (if b then k ∷ first_asked ps n (k + 1) vs else first_asked ps (suc n) (k + 1) vs) j x ≡ x → IsWanted ps k (v ∷ vs) x
    by f g true e zero p is = record { place = 0; number = omega (arith, is); there = omega arith; wanted = subst (λ (y : ℕ). wanted ps y v ≡ true) is e }
    by f g true e (suc i) p is = one_later ps k x v vs (f i (omega (arith, p)) is)
    by f g false e i p is = one_later ps k x v vs (g i p is)

few_asked : (ps : List PointOf) (n k : ℕ) (vs : List VariableOf) → length (first_asked ps n k vs) ≤ n
unfolding first_asked
few_asked ps zero k vs = omega arith
few_asked ps (suc n) k [] = omega arith
few_asked ps (suc n) k (v ∷ vs) = by (few_asked ps n (k + 1) vs) (few_asked ps (suc n) (k + 1) vs) (wanted ps k v)
  where
    by : length (first_asked ps n (k + 1) vs) ≤ n → length (first_asked ps (suc n) (k + 1) vs) ≤ suc n → (b : Bool)
        → length (if b then k ∷ first_asked ps n (k + 1) vs else first_asked ps (suc n) (k + 1) vs) ≤ suc n
    by f g true = omega (arith, f)
    by f g false = g

from_k : (ps : List PointOf) (n k : ℕ) (vs : List VariableOf) (j : ℕ) → j < length (first_asked ps n k vs) → k ≤ slice_index (first_asked ps n k vs) j
from_k ps n k vs j h =
    let xs = first_asked ps n k vs in
    let at = each_at ps n k vs j (slice_index xs j) h (get_or_default xs j (slice_index xs j) 0 h) in
    let number = at.number in
    omega (arith, number)

rising_at : (ps : List PointOf) (n k : ℕ) (vs : List VariableOf) → IsStrictlyIncreasing (first_asked ps n k vs)
unfolding first_asked
rising_at ps zero k vs j h = absurd (omega (arith, h))
rising_at ps (suc n) k [] j h = absurd (omega (arith, h))
rising_at ps (suc n) k (v ∷ vs) j h = by (rising_at ps n (k + 1) vs) (rising_at ps (suc n) (k + 1) vs) (wanted ps k v) j h
  where
    by : IsStrictlyIncreasing (first_asked ps n (k + 1) vs) → IsStrictlyIncreasing (first_asked ps (suc n) (k + 1) vs) → (b : Bool)
        → IsStrictlyIncreasing (if b then k ∷ first_asked ps n (k + 1) vs else first_asked ps (suc n) (k + 1) vs)
    by f g true zero h = let from = from_k ps n (k + 1) vs 0 (omega (arith, h)) in omega (arith, from)
    by f g true (suc j) h =
        let e : (suc j) + 1 ≡ suc (j + 1) = omega arith in
        subst (λ (i : ℕ). slice_index (first_asked ps n (k + 1) vs) j < slice_index (k ∷ first_asked ps n (k + 1) vs) i) (sym e) (f j (omega (arith, h)))
    by f g false j h = g j h

-- one that is wanted stands in the list, or the list is full of smaller ones
abbrev IsFirst : ℕ → List ℕ → ℕ → Type 0
IsFirst n xs x = Contains xs x ⊎ ((length xs ≡ n) × ((y : ℕ) → Contains xs y → y < x))

more_first : (n k x : ℕ) (xs : List ℕ) → k < x → IsFirst n xs x → IsFirst (suc n) (k ∷ xs) x
more_first n k x xs less (inl has) = inl (suc has.0, omega (arith, has.1), has.2)
more_first n k x xs less (inr full) = inr (ap suc full.0, λ y has. below y has.0 has.1 has.2)
  where
    below : (y j : ℕ) → j < suc (length xs) → slice_index_or (k ∷ xs) j y ≡ y → y < x
    below y zero h is = omega (arith, is, less)
    below y (suc j) h is = full.1 y (j, omega (arith, h), is)

first_at_place : (ps : List PointOf) (n k : ℕ) (vs : List VariableOf) (x place : ℕ) → x ≡ k + place → place < length vs
    → wanted ps x (slice_index_or vs place no_variable) ≡ true → IsFirst n (first_asked ps n k vs) x
unfolding first_asked
first_at_place ps zero k vs x place e h w = inr (refl, λ y has. absurd (let less = has.1 in omega (arith, less)))
first_at_place ps (suc n) k [] x place e h w = absurd (omega (arith, h))
first_at_place ps (suc n) k (v ∷ vs) x place e h w =
    by (λ q. first_at_place ps n (k + 1) vs x q) (λ q. first_at_place ps (suc n) (k + 1) vs x q) (wanted ps k v) refl place e h w
  where
    by : ((q : ℕ) → x ≡ k + 1 + q → q < length vs → wanted ps x (slice_index_or vs q no_variable) ≡ true → IsFirst n (first_asked ps n (k + 1) vs) x)
        → ((q : ℕ) → x ≡ k + 1 + q → q < length vs → wanted ps x (slice_index_or vs q no_variable) ≡ true → IsFirst (suc n) (first_asked ps (suc n) (k + 1) vs) x)
        → (b : Bool) → wanted ps k v ≡ b → (q : ℕ) → x ≡ k + q → q < suc (length vs) → wanted ps x (slice_index_or (v ∷ vs) q no_variable) ≡ true
        → IsFirst (suc n) (if b then k ∷ first_asked ps n (k + 1) vs else first_asked ps (suc n) (k + 1) vs) x
    by f g true is zero e h w = inl (0, omega arith, omega (arith, e))
    by f g true is (suc q) e h w = more_first n k x (first_asked ps n (k + 1) vs) (omega (arith, e)) (f q (omega (arith, e)) (omega (arith, h)) w)
    by f g false is zero e h w =
        let same : x ≡ k = omega (arith, e) in
        absurd (both_ways (wanted ps k v) is (subst (λ (y : ℕ). wanted ps y v ≡ true) same w))
    by f g false is (suc q) e h w = g q (omega (arith, e)) (omega (arith, h)) w

-- ---- what is asked on edges

abbrev over : GraphOf → (ℕ → EdgeOf → Bool) → List PointOf
over g f = with_edges f 0 g.points

asked_over : (g : GraphOf) (f : ℕ → EdgeOf → Bool) (x : ℕ) → IsWanted (over g f) 0 g.variables x → IsAskedOver g f x
asked_over g f x h =
    let same : x ≡ h.place = let number = h.number in omega (arith, number) in
    let both = and_parts (is_asked_in x (over g f)) (is_named_scalar (slice_index_or g.variables h.place no_variable)) h.wanted in
    let points = Any-from_list_any (λ (q : PointOf). is_asked_on x q.edges) (over g f) both.0 in
    let u : ℕ = points.0 in
    let point : u < length g.points = subst (λ (n : ℕ). u < n) (length-with_edges f 0 g.points) points.2 in
    let here : slice_index_or (over g f) u no_point ≡ points.1 = get_or_default (over g f) u no_point points.1 points.2 ∙ points.3 in
    let asked : is_asked_of (f u) x (point_at g u).edges ≡ true = sym (asked_at f g.points x u point) ∙ ap (λ (q : PointOf). is_asked_on x q.edges) here ∙ points.4 in
    let edges = Any-from_list_any (λ (e : EdgeOf). f u e && is_asked_by x e.instr) (point_at g u).edges asked in
    let e : EdgeOf = edges.1 in
    let parts = and_parts (f u e) (is_asked_by x e.instr) edges.4 in
    record {
      there = subst (λ (n : ℕ). n < length g.variables) (sym same) h.there;
      scalar = ap (λ (n : ℕ). is_named_scalar (variable_at g n)) same ∙ both.1;
      from = u;
      edge = e;
      point = point;
      begins = (edges.0, edges.2, edges.3);
      taken = parts.0;
      asks = parts.1;
    }

wanted_over : (g : GraphOf) (f : ℕ → EdgeOf → Bool) (x : ℕ) → IsAskedOver g f x → wanted (over g f) x (variable_at g x) ≡ true
wanted_over g f x h =
    let u = h.from in
    let e = h.edge in
    let es = (point_at g u).edges in
    let test : EdgeOf → Bool = λ (d : EdgeOf). f u d && is_asked_by x d.instr in
    let begins = h.begins in
    let on : is_asked_of (f u) x es ≡ true =
    list_any_at test es begins.0 e begins.1 (ap test begins.2 ∙ and_from (f u e) (is_asked_by x e.instr) h.taken h.asks) in
    let asked : is_asked_in x (over g f) ≡ true =
    list_any_at (λ (q : PointOf). is_asked_on x q.edges) (over g f) u no_point (subst (λ (n : ℕ). u < n) (sym (length-with_edges f 0 g.points)) h.point)
    (asked_at f g.points x u h.point ∙ on) in
    and_from (is_asked_in x (over g f)) (is_named_scalar (variable_at g x)) asked h.scalar

pub variables_are_first : (g : GraphOf) (f : ℕ → EdgeOf → Bool) (n : ℕ) → AreFirst (IsAskedOver g f) n (variables_over g f n)
variables_are_first g f n = record {
  rising = rising_at (over g f) n 0 g.variables;
  few = few_asked (over g f) n 0 g.variables;
  each = λ x has. asked_over g f x (each_at (over g f) n 0 g.variables has.0 x has.1 has.2);
  first = λ x h. first_at_place (over g f) n 0 g.variables x x (omega arith) h.there (wanted_over g f x h);
}

pack_at : (g : GraphOf) (p : PlanView) (n k : ℕ) → k < pack_count p → slice_index_or (packs_of g p n) k [] ≡ variables_over g (belongs p k) n
pack_at g p n zero h = refl
pack_at g p n (suc k) h = get_or-map (λ (c : Component). variables_over g (lies_in p c) n) p.components k no_component [] (omega (arith, h))

pub packs_are_of_their_edges : (g : GraphOf) (p : PlanView) (n pack : ℕ) → pack < pack_count p
    → AreFirst (IsAskedOver g (belongs p pack)) n (slice_index_or (packs_of g p n) pack [])
packs_are_of_their_edges g p n pack h =
    subst (λ (xs : List ℕ). AreFirst (IsAskedOver g (belongs p pack)) n xs) (sym (pack_at g p n pack h)) (variables_are_first g (belongs p pack) n)

-- ---- which edges belong to which packs

belongs_after : (p : PlanView) (k from : ℕ) (e : EdgeOf) → belongs p (k + 1) from e ≡ lies_in p (slice_index_or p.components k no_component) from e
belongs_after p k from e = let next : k + 1 ≡ suc k = omega arith in ap (λ (m : ℕ). belongs p m from e) next

pub edges_have_packs : (p : PlanView) (from : ℕ) (e : EdgeOf) → IsTrue (belongs p 0 from e) ↔ ((k : ℕ) → k < length p.components → IsTrue (belongs p (k + 1) from e) → ⊥)
edges_have_packs p from e =
    let test : Component → Bool = λ (c : Component). lies_in p c from e in (
      (λ none k h one. both_ways (list_any test p.components) (not-true (list_any test p.components) none)
          (list_any_at test p.components k no_component h (sym (belongs_after p k from e) ∙ one))),
      (λ none. not_from_false (list_any test p.components) (false_from_ne_true (list_any test p.components)
          (λ any.
          let found = Any-from_list_any test p.components any in
          let here : slice_index_or p.components found.0 no_component ≡ found.1 = get_or_default p.components found.0 no_component found.1 found.2 ∙ found.3 in
          none found.0 found.2 (belongs_after p found.0 from e ∙ ap test here ∙ found.4)))),
    )

pub edges_lie_between_members : (p : PlanView) (c : Component) (from : ℕ) (e : EdgeOf) → Axioms p → Contains p.components c → from < p.elements → e.to < p.elements
    → IsTrue (lies_in p c from e) ↔ (Inside p c from × Inside p c e.to)
edges_lie_between_members p c from e axioms of from_in to_in =
    let from_tells = is_inside_tells p c from axioms of from_in in
    let to_tells = is_inside_tells p c e.to axioms of to_in in (
      (λ lies. let parts = and_parts (is_inside p c from) (is_inside p c e.to) lies in (from_tells.0 parts.0, to_tells.0 parts.1)),
      (λ both. and_from (is_inside p c from) (is_inside p c e.to) (from_tells.1 both.0) (to_tells.1 both.1)),
    )

-- the stretch of an inner component lies in that of the outer
record IsWithin (outer inner : Component) : Type 0 where
  pub first : outer.first ≤ inner.first
  pub end : inner.end ≤ outer.end

within : (p : PlanView) (outer inner : Component) → Axioms p → Contains p.components outer → Contains p.components inner → Inside p outer inner.head → IsWithin outer inner
within p outer inner axioms of_outer of_inner inside =
    let at = stands_inside p outer inner.head axioms of_outer inside in
    let from = at.from in
    let before = at.before in
    let first_inner = first_at p inner axioms of_inner in
    let first_outer = first_at p outer axioms of_outer in
    elim (cases_eq outer.first inner.first) [
      | inl same ↦
          let equal : outer ≡ inner = same_head p outer inner axioms of_outer of_inner
          (same_place p outer.head inner.head axioms (head_within p outer axioms of_outer) (head_within p inner axioms of_inner) (sym first_outer ∙ same ∙ first_inner)) in
          subst (λ (c : Component). IsWithin outer c) equal (record { first = omega arith; end = omega arith })
      | inr other ↦
          let ends = axioms.nested outer inner of_outer of_inner (omega (arith, other, from, first_inner)) (omega (arith, before, first_inner)) in
          record { first = omega (arith, from, first_inner); end = omega (arith, ends) }
    ]

inside_both : (p : PlanView) (outer inner : Component) (u : ℕ) → IsWithin outer inner → is_inside p inner u ≡ true → is_inside p outer u ≡ true
inside_both p outer inner u lies h = stretch (place_of p u) h
  where
    stretch : (at : ℕ) → (nat_le inner.first at && nat_lt at inner.end) ≡ true → (nat_le outer.first at && nat_lt at outer.end) ≡ true
    stretch at h =
        let parts = and_parts (nat_le inner.first at) (nat_lt at inner.end) h in
        let from : inner.first ≤ at = leb-true inner.first at parts.0 in
        let before : at < inner.end = ltb-true at inner.end parts.1 in
        let first = lies.first in
        let end = lies.end in
        and_from (nat_le outer.first at) (nat_lt at outer.end) (le-leb outer.first at (omega (arith, from, first))) (lt-ltb at outer.end (omega (arith, before, end)))

pub inner_edges_are_outer : (p : PlanView) (outer inner : Component) (from : ℕ) (e : EdgeOf) → Axioms p → Contains p.components outer → Contains p.components inner → Inside p outer inner.head
    → IsTrue (lies_in p inner from e) → IsTrue (lies_in p outer from e)
inner_edges_are_outer p outer inner from e axioms of_outer of_inner inside lies =
    let it = within p outer inner axioms of_outer of_inner inside in
    let parts = and_parts (is_inside p inner from) (is_inside p inner e.to) lies in
    and_from (is_inside p outer from) (is_inside p outer e.to) (inside_both p outer inner from it parts.0) (inside_both p outer inner e.to it parts.1)

-- ---- a graph without components

all_kept : (f : EdgeOf → Bool) (es : List EdgeOf) → ((e : EdgeOf) → f e ≡ true) → filter f es ≡ es
all_kept f [] h = refl
all_kept f (e ∷ es) h = ap (λ (b : Bool). cond b (e ∷ filter f es) (filter f es)) (h e) ∙ ap (λ (ds : List EdgeOf). e ∷ ds) (all_kept f es h)

all_points : (f : ℕ → EdgeOf → Bool) (n : ℕ) (ps : List PointOf) → ((k : ℕ) (e : EdgeOf) → f k e ≡ true) → with_edges f n ps ≡ ps
all_points f n [] h = refl
all_points f n (p ∷ ps) h =
    ap (λ (es : List EdgeOf). record p { edges = es } ∷ with_edges f (n + 1) ps) (all_kept (f n) p.edges (h n))
    ∙ ap (λ (qs : List PointOf). p ∷ qs) (all_points f (n + 1) ps h)

pub one_pack_without_components : (g : GraphOf) (p : PlanView) (n : ℕ) → p.components ≡ [] → packs_of g p n ≡ octagon_variables_of g n ∷ []
one_pack_without_components g p n e =
    let none : (k : ℕ) (d : EdgeOf) → lies_in_none p k d ≡ true = λ k d. ap (λ (cs : List Component). not (list_any (λ (c : Component). lies_in p c k d) cs)) e in
    ap (λ (cs : List Component). variables_over g (lies_in_none p) n ∷ map (λ (c : Component). variables_over g (lies_in p c) n) cs) e
    ∙ ap (λ (ps : List PointOf). first_asked ps n 0 g.variables ∷ []) (all_points (lies_in_none p) 0 g.points none)
