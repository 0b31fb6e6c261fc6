-- The edges of a component, by its members.
use Rattle.std.proofs.Common.{◌≡◌, ◌<◌, ℕ, refl, ap, sym, ◌∙◌, subst, Bool, true, false, ◌&&◌, inl, inr, List, length, slice_index_or, arith, Contains}
use Rattle.std.specs.List.{list_any, All}
use Rattle.std.proofs.lemmas.Bool.{cases_lt, cases_Bool, both_ways}
use Rattle.std.proofs.lemmas.Bool.Decides.{same_from_decides}
use Rattle.std.proofs.lemmas.List.{get_or_default, get_or_past}
use Rattle.std.proofs.lemmas.List.Elements.{All-weaker}
use Rattle.std.proofs.lemmas.List.Folds.{Any-from_list_any, list_any_at, list_any_none}
use Rattle.pk_graph.specs.Graphs.{EdgeOf, PointOf, GraphOf, no_point, point_at}
use Rattle.pk_graph.specs.OctagonVariables.{is_asked_by, is_asked_on, is_asked_in}
use Rattle.pk_graph.specs.WellMade.{IsGraph, IsEdgeOf}
use Rattle.pk_plan.specs.declared.components.Component.{Component}
use Rattle.pk_plan.specs.Plans.{PlanView, is_inside, members_of, Inside}
use Rattle.pk_plan.specs.Axioms.{Axioms}
use Rattle.pk_plan.proofs.PlanLemmas.{is_inside_tells}
use Rattle.pk_packs.specs.Belongs.{lies_in}
use Rattle.pk_packs.specs.Packs.{with_edges}
use Rattle.pk_packs.proofs.EdgeLemmas.{is_asked_of, asked_at, length-with_edges}

-- edges lead to elements of the plan
pub edges_within : (g : GraphOf) (p : PlanView) (k : ℕ) → IsGraph g → Axioms p → p.points ≡ length g.points → k < length g.points → All (λ (e : EdgeOf). e.to < p.elements) (point_at g k).edges
edges_within g p k made axioms same h =
    All-weaker (IsEdgeOf g) (λ (e : EdgeOf). e.to < p.elements)
    (λ e of. let to = of.leads_to_a_point in let counted = axioms.counted in omega (arith, to, counted, same))
    (point_at g k).edges (made.points k no_point h).edges

pub same_tests : (a b : Bool) → (a ≡ true → b ≡ true) → (b ≡ true → a ≡ true) → a ≡ b
same_tests a b f g = same_from_decides {P = b ≡ true} a b (f, g) (λ h. h, λ h. h)

-- asked for on an edge from u that leads to a member
abbrev pub asked_inside : GraphOf → PlanView → Component → ℕ → ℕ → Bool
asked_inside g p c x u = is_asked_of (λ (e : EdgeOf). is_inside p c e.to) x (point_at g u).edges

none_asked : (f : EdgeOf → Bool) (x : ℕ) (es : List EdgeOf) → is_asked_of (λ (e : EdgeOf). false && f e) x es ≡ false
none_asked f x es = list_any_none (λ (e : EdgeOf). (false && f e) && is_asked_by x e.instr) es (λ k d h. refl)

-- an edge is asked of a point
is_point : (g : GraphOf) (p : PlanView) (c : Component) (x u : ℕ) → asked_inside g p c x u ≡ true → u < length g.points
is_point g p c x u asked = elim (cases_lt u (length g.points)) [
  | inl less ↦ less
  | inr more ↦ absurd (both_ways (asked_inside g p c x u)
      (ap (λ (q : PointOf). is_asked_of (λ (e : EdgeOf). is_inside p c e.to) x q.edges) (get_or_past g.points u no_point more)) asked)
]

-- of a member these are the edges of the component
member_same : (g : GraphOf) (p : PlanView) (c : Component) (x u : ℕ) → is_inside p c u ≡ true → is_asked_of (lies_in p c u) x (point_at g u).edges ≡ asked_inside g p c x u
member_same g p c x u inside = ap (λ (b : Bool). is_asked_of (λ (e : EdgeOf). b && is_inside p c e.to) x (point_at g u).edges) inside

to_points : (g : GraphOf) (p : PlanView) (c : Component) (x : ℕ) → Axioms p → Contains p.components c → p.points ≡ length g.points
    → list_any (asked_inside g p c x) (members_of p c) ≡ true → is_asked_in x (with_edges (lies_in p c) 0 g.points) ≡ true
to_points g p c x axioms of same any =
    let found = Any-from_list_any (asked_inside g p c x) (members_of p c) any in
    let u : ℕ = found.1 in
    let member : Inside p c u = (found.0, found.2, found.3) in
    let asked : asked_inside g p c x u ≡ true = found.4 in
    let point : u < length g.points = is_point g p c x u asked in
    let element : u < p.elements = (let counted = axioms.counted in omega (arith, point, counted, same)) in
    let inside : is_inside p c u ≡ true = (is_inside_tells p c u axioms of element).1 member in
    list_any_at (λ (q : PointOf). is_asked_on x q.edges) (with_edges (lies_in p c) 0 g.points) u no_point
    (subst (λ (n : ℕ). u < n) (sym (length-with_edges (lies_in p c) 0 g.points)) point)
    (asked_at (lies_in p c) g.points x u point ∙ member_same g p c x u inside ∙ asked)

to_members : (g : GraphOf) (p : PlanView) (c : Component) (x : ℕ) → Axioms p → Contains p.components c → p.points ≡ length g.points
    → is_asked_in x (with_edges (lies_in p c) 0 g.points) ≡ true → list_any (asked_inside g p c x) (members_of p c) ≡ true
to_members g p c x axioms of same any =
    let ps = with_edges (lies_in p c) 0 g.points in
    let found = Any-from_list_any (λ (q : PointOf). is_asked_on x q.edges) ps any in
    let u : ℕ = found.0 in
    let point : u < length g.points = subst (λ (n : ℕ). u < n) (length-with_edges (lies_in p c) 0 g.points) found.2 in
    let element : u < p.elements = (let counted = axioms.counted in omega (arith, point, counted, same)) in
    let here : slice_index_or ps u no_point ≡ found.1 = get_or_default ps u no_point found.1 found.2 ∙ found.3 in
    let asked : is_asked_of (lies_in p c u) x (point_at g u).edges ≡ true =
    sym (asked_at (lies_in p c) g.points x u point) ∙ ap (λ (q : PointOf). is_asked_on x q.edges) here ∙ found.4 in
    elim (cases_Bool (is_inside p c u)) [
      | inl is ↦
          let member : Inside p c u = (is_inside_tells p c u axioms of element).0 is in
          list_any_at (asked_inside g p c x) (members_of p c) member.0 u member.1
          (ap (asked_inside g p c x) member.2 ∙ sym (member_same g p c x u is) ∙ asked)
      | inr other ↦ absurd (both_ways (is_asked_of (lies_in p c u) x (point_at g u).edges)
          (ap (λ (b : Bool). is_asked_of (λ (e : EdgeOf). b && is_inside p c e.to) x (point_at g u).edges) other
          ∙ none_asked (λ (e : EdgeOf). is_inside p c e.to) x (point_at g u).edges) asked)
    ]

pub component_same : (g : GraphOf) (p : PlanView) (c : Component) (x : ℕ) → Axioms p → Contains p.components c → p.points ≡ length g.points
    → list_any (asked_inside g p c x) (members_of p c) ≡ is_asked_in x (with_edges (lies_in p c) 0 g.points)
component_same g p c x axioms of same =
    same_tests (list_any (asked_inside g p c x) (members_of p c)) (is_asked_in x (with_edges (lies_in p c) 0 g.points))
    (to_points g p c x axioms of same) (to_members g p c x axioms of same)
