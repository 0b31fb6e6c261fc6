-- In the plan of a digraph's nest a constraint leads from the item of an edge's source to its target, where that lies in another item.
use Rattle.std.proofs.Common.{◌≡◌, ◌≢◌, ℕ, ◌<◌, ◌==◌, ◌⊎◌, inl, inr, List, length, true, refl, sym, subst, ◌∙◌, arith}
use Rattle.std.proofs.lemmas.Bool.{eq-eqb}
use Rattle.pk_plan.specs.declared.components.Component.{Component}
use Rattle.pk_plan.specs.Digraphs.{Edge, IsClosed}
use Rattle.pk_plan.specs.Nests.{Items, Holds}
use Rattle.pk_plan.specs.Plans.{PlanView, end_of, Constrains, Inside, predecessors_of}
use Rattle.pk_plan.specs.Axioms.{Axioms}
use Rattle.pk_plan.specs.Shape.{holds}
use Rattle.pk_plan.proofs.DigraphLemmas.{edge_from_vertex}
use Rattle.pk_plan.proofs.PlanLemmas.{Of, head_inside, head_is_point, exit_at, is_inside_tells, stands_inside, same_exit, same_head}
use Rattle.pk_wpo.specs.Constraints.{Top, itself, exit_of_outermost, Has, vertex, inner_exit, forth, by_edge, exit_of}
use Rattle.pk_wpo.specs.Made.{IsPlanOf}
use Rattle.pk_wpo.proofs.Bracketed.{held_in}
use Rattle.pk_core.proofs.Basics.{cases, same}
use Rattle.pk_core.proofs.Keeps.{apart_of}
use Rattle.pk_core.proofs.Plan_shapes.{has_of}
use Rattle.pk_peak.specs.Peak.{leads_from}
use Rattle.pk_items.specs.Items.{top_of}
use Rattle.pk_items.proofs.Outermost.{holding, holds_by, top_under, under_top, one_top, member_top}
use Rattle.pk_release.specs.Laws.{EdgesLeadFromItems}
use Rattle.pk_release.proofs.Counting.{has_any}

-- what a component has of the vertices it holds
vertex_held : (g : List (List ℕ)) (nest : Items) (h e : ℕ) → Has (Holds nest) (exit_of g nest) h e → e < length g → Holds nest h e
vertex_held g nest h e (vertex held) low = held
vertex_held g nest h e (inner_exit held own other) low = absurd (omega (arith, low))

module _ (g : List (List ℕ)) (nest : Items) (p : PlanView) (axioms : Axioms p) (made : IsPlanOf g nest p) where
  low_of : (u : ℕ) → u < length g → u < p.elements
  low_of u l = let n = made.points in let c = axioms.counted in omega (arith, l, n, c)

  -- the component of a head that holds a vertex
  inside_of : (h u : ℕ) → Holds nest h u → (c : Component) × Of p c × (c.head ≡ h) × Inside p c u
  inside_of h u held =
      let c = made.component h (held_in nest h u held).1 in
      (c.0, c.1, c.2, made.member c.0 u c.1 (vertex (subst (λ (k : ℕ). Holds nest k u) (sym c.2) held)))

  held_of : (c : Component) (u : ℕ) → Of p c → u < length g → Inside p c u → Holds nest c.head u
  held_of c u of low inside = vertex_held g nest c.head u (made.is_member c u of inside) low

  inside_holds : (c : Component) (u : ℕ) → Of p c → Inside p c u → holds p c.exit u ≡ true
  inside_holds c u of inside =
      let low = (stands_inside p c u axioms of inside).within in
      holds_by p axioms c of u low ((is_inside_tells p c u axioms of low).1 inside)

  inside_top : (c : Component) (u : ℕ) → Of p c → Inside p c u → top_of p u ≡ top_of p c.exit
  inside_top c u of inside = member_top p axioms c.exit u (inside_holds c u of inside)

  -- a head that holds a vertex lies in its item
  no_head : (u v : ℕ) → top_of p u ≢ top_of p v → Holds nest v u → ⊥
  no_head u v apart held =
      let c = inside_of v u held in
      apart (inside_top c.0 u c.1 c.3 ∙ sym (inside_top c.0 v c.1 (subst (λ (k : ℕ). Inside p c.0 k) c.2 (head_inside p c.0 axioms c.1))))

  -- the last element of an item is the top of each of its vertices against a vertex of another item
  top_against : (u v : ℕ) → u < length g → v < length g → top_of p u ≢ top_of p v → Top (Holds nest) (exit_of g nest) u v (top_of p u)
  top_against u v u_low v_low apart = elim (top_under p axioms u (low_of u u_low)).under.under [
    | inl is ↦ subst (λ (a : ℕ). Top (Holds nest) (exit_of g nest) u v a) is (itself (λ k held.
        let c = inside_of k u held in
        absurd (
        let i : holds p c.0.exit (top_of p u) ≡ true = subst (λ (w : ℕ). holds p c.0.exit w ≡ true) is (inside_holds c.0 u c.1 c.3) in
        let o = (top_under p axioms u (low_of u u_low)).under.outermost c.0.exit in cc)))
    | inr i ↦
        let held = holding p axioms (top_of p u) u i in
        let c = held.component in
        let inside : Inside p c u = (is_inside_tells p c u axioms held.of held.within).0 held.inside in
        let is : exit_of g nest c.head ≡ top_of p u = sym (made.exit c held.of) ∙ held.exit in
        subst (λ (a : ℕ). Top (Holds nest) (exit_of g nest) u v a) is (exit_of_outermost (record {
          with_one = held_of c u held.of u_low inside;
          without_other = λ other. (
              let d = inside_of c.head v other in
              let v_inside : Inside p c v = subst (λ (k : Component). Inside p k v) (same_head p d.0 c axioms d.1 held.of d.2) d.3 in
              apart (inside_top c u held.of inside ∙ sym (inside_top c v held.of v_inside)));
          outermost = λ k one none. outer u u_low c held.of held.exit k one;
        }))
  ]
    where
      outer : (u : ℕ) → u < length g → (c : Component) → Of p c → c.exit ≡ top_of p u → (k : ℕ) → Holds nest k u → Holds nest c.head k
      outer u u_low c of exit k one =
          let d = inside_of k u one in
          let k_inside : Inside p d.0 k = subst (λ (w : ℕ). Inside p d.0 w) d.2 (head_inside p d.0 axioms d.1) in
          let k_top : top_of p k ≡ c.exit = inside_top d.0 k d.1 k_inside ∙ sym (inside_top d.0 u d.1 d.3) ∙ sym exit in
          let k_low : k < length g = (let l = head_is_point p d.0 axioms d.1 in let q = d.2 in let n = made.points in omega (arith, l, q, n)) in
          elim (under_top p axioms c.exit k (low_of k k_low) k_top) [
            | inl is ↦ absurd (let e = exit_at p c axioms of in let n = made.points in omega (arith, e, n, is, k_low))
            | inr i ↦ (
                let held = holding p axioms c.exit k i in
                let same_c : held.component ≡ c = same_exit p held.component c axioms held.of of held.exit in
                held_of c k of k_low (subst (λ (w : Component). Inside p w k) same_c ((is_inside_tells p held.component k axioms held.of held.within).0 held.inside)))
          ]

  pub edge_leads : IsClosed g → (u v : ℕ) → Edge g u v → (v < end_of p) × ((top_of p u ≡ top_of p v) ⊎ (leads_from p (top_of p) (top_of p u) v ≡ true))
  edge_leads closed u v edge =
      let u_low = edge_from_vertex g u v edge in
      let v_low = closed u v edge in
      let n = made.points in (
        omega (arith, v_low, n),
        elim (cases (top_of p u == top_of p v)) [
          | inl q ↦ inl (same (top_of p u) (top_of p v) q)
          | inr q ↦ inr (
              let apart = apart_of (top_of p u) (top_of p v) q in
              let leads : Constrains p (top_of p u) v = made.constrains (top_of p u) v (by_edge (forth edge (no_head u v apart) (top_against u v u_low v_low apart))) in
              let t = top_under p axioms u (low_of u u_low) in
              let again : top_of p (top_of p u) ≡ top_of p u = one_top p axioms (top_of p u) (top_of p u) t.low (record { outermost = t.under.outermost; under = inl refl }) in
              has_any (λ a. top_of p a == top_of p u) (predecessors_of p v) (top_of p u) (has_of (top_of p u) (predecessors_of p v) (axioms.to_predecessor (top_of p u) v leads)) (eq-eqb (top_of p (top_of p u)) (top_of p u) again))
        ],
      )

pub edges_lead_from_items : EdgesLeadFromItems
edges_lead_from_items g p closed planned u v edge = edge_leads g planned.nest p planned.axioms planned.is_plan closed u v edge
