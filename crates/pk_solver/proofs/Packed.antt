-- The ordered plans of a graph have the same packs, and so the same layouts.
use Rattle.std.specs.Prelude.{◌≡◌, ℕ, suc, ◌+◌, ◌<◌, ◌≤◌, ◌⊎◌, ◌&&◌, ◌||◌, not, if◌then◌else◌, Bool, List, [], ◌∷◌, length, map, slice_index_or, Contains}
use Rattle.std.specs.Cmp.{both_ways}
use Rattle.std.specs.List.{list_any, filter}
use Rattle.std.proofs.Common.{arith, refl, sym, ap, subst, ◌∙◌, inl, inr}
use Rattle.std.proofs.lemmas.Bool.{cases_eq, cases_lt}
use Rattle.std.proofs.lemmas.List.{get_or-map, length-map}
use Rattle.std.proofs.lemmas.List.Elements.{Contains-get_or}
use Rattle.pk_graph.specs.Graphs.{EdgeOf, PointOf, GraphOf, no_point, point_at}
use Rattle.pk_graph.specs.OctagonVariables.{first_asked, octagon_variables_of}
use Rattle.pk_transfer.specs.Graphs.{layout_over}
use Rattle.pk_plan.specs.declared.components.Component.{Component}
use Rattle.pk_plan.specs.Digraphs.{Edge}
use Rattle.pk_plan.specs.Nests.{Items, No_items, Vertex_first, Component_first, In, Once, Holds}
use Rattle.pk_plan.specs.Order.{Level}
use Rattle.pk_plan.specs.Plans.{PlanView, is_inside}
use Rattle.pk_plan.proofs.PlanLemmas.{is_inside_tells}
use Rattle.pk_nest.proofs.ComponentLemmas.{components_agree}
use Rattle.pk_wpo.specs.Constraints.{Top, itself, exit_of_outermost, forth, by_edge, exit_of}
use Rattle.pk_wpo.specs.Same.{AreAlike}
use Rattle.pk_wpo.proofs.Alike.{alike}
use Rattle.pk_wpo.proofs.Bracketed.{held_in, head_in}
use Rattle.pk_order.specs.Ordered.{IsOrdered}
use Rattle.pk_packs.specs.Belongs.{lies_in, lies_in_none, no_component}
use Rattle.pk_packs.specs.Packs.{with_edges, variables_over, packs_of, pack_count}
use Rattle.pk_analysis.specs.declared.analysis.Options.{Options}
use Rattle.pk_analysis.specs.Digraphs.{digraph_of, targets_of}
use Rattle.pk_analysis.specs.Layouts.{layout_for}
use Rattle.pk_solver.proofs.Solved.{enough_elements}

-- ---- an edge leads to an element

stands_or_not : (items : Items) (u : ℕ) → In items u ⊎ (In items u → ⊥)
stands_or_not No_items u = inr (λ stands. stands)
stands_or_not (Vertex_first v more) u = elim (cases_eq u v) [
  | inl same ↦ inl (inl same)
  | inr other ↦ elim (stands_or_not more u) [
    | inl stands ↦ inl (inr stands)
    | inr none ↦ inr (λ stands. elim stands [ inl same ↦ other same | inr later ↦ none later ])
  ]
]
stands_or_not (Component_first head rest more) u = elim (cases_eq u head) [
  | inl same ↦ inl (inl same)
  | inr other ↦ elim (stands_or_not rest u) [
    | inl stands ↦ inl (inr (inl stands))
    | inr none ↦ elim (stands_or_not more u) [
      | inl stands ↦ inl (inr (inr stands))
      | inr nowhere ↦ inr (λ stands. elim stands [ inl same ↦ other same | inr behind ↦ elim behind [ inl inner ↦ none inner | inr later ↦ nowhere later ] ])
    ]
  ]
]

-- the component that holds a vertex and all others that do so, or there is none
abbrev Outermost : Items → ℕ → Type 0
Outermost items u =
    ((k : ℕ) → Holds items k u → ⊥) ⊎ ((h : ℕ) × Holds items h u × ((k : ℕ) → Holds items k u → Holds items h k))

outermost : (items : Items) (u : ℕ) → Once items → Outermost items u
outermost No_items u once = inl (λ k held. held)
outermost (Vertex_first v more) u once = outermost more u once.1
outermost (Component_first head rest more) u once = by (stands_or_not (Vertex_first head rest) u) (outermost more u once.4)
  where
    not_later : In (Vertex_first head rest) u → In more u → ⊥
    not_later (inl same) later = once.1 (subst (In more) same later)
    not_later (inr inner) later = once.2 u inner later

    around : In (Vertex_first head rest) u → (k : ℕ) → Holds (Component_first head rest more) k u → Holds (Component_first head rest more) head k
    around here k (inl held) = inl (refl, inl held.0)
    around here k (inr (inl held)) = inl (refl, inr (head_in rest k u held))
    around here k (inr (inr held)) = absurd (not_later here (held_in more k u held).0)

    later_one : (In (Vertex_first head rest) u → ⊥) → (k : ℕ) → Holds (Component_first head rest more) k u → Holds more k u
    later_one none k (inl held) = absurd (none held.1)
    later_one none k (inr (inl held)) = absurd (none (inr (held_in rest k u held).0))
    later_one none k (inr (inr held)) = held

    by : In (Vertex_first head rest) u ⊎ (In (Vertex_first head rest) u → ⊥) → Outermost more u → Outermost (Component_first head rest more) u
    by (inl here) later = inr (head, inl (refl, here), around here)
    by (inr none) (inl nobody) = inl (λ k held. nobody k (later_one none k held))
    by (inr none) (inr (h, held, all)) = inr (h, inr (inr held), λ k other. inr (inr (all k (later_one none k other))))

module _ (g : List (List ℕ)) (p : PlanView) (order : Level) (x : IsOrdered g p order) where
  no_vertex : (v : ℕ) → length g ≤ v → In x.nest v → ⊥
  no_vertex v past stands = let vertex : v < length g = x.is_nest.only v stands in absurd (omega (arith, past, vertex))

  -- also where it leads to no vertex
  leads_within : (u v : ℕ) → Edge g u v → v < p.elements
  leads_within u v edge = elim (cases_lt v (length g)) [
    | inl vertex ↦ let points = x.is_plan.points in omega (arith, vertex, points, x.axioms.counted)
    | inr past ↦ beyond past (outermost x.nest u x.is_nest.once)
  ]
    where
      from_top : length g ≤ v → (a : ℕ) → Top (Holds x.nest) (exit_of g x.nest) u v a → v < p.elements
      from_top past a top =
          x.axioms.within a v (x.is_plan.constrains a v (by_edge (forth edge (λ held. no_vertex v past (head_in x.nest v u held)) top)))

      beyond : length g ≤ v → Outermost x.nest u → v < p.elements
      beyond past (inl nobody) = from_top past u (itself (λ k held. absurd (nobody k held)))
      beyond past (inr (h, held, all)) =
          from_top past (exit_of g x.nest h) (exit_of_outermost (record {
            with_one = held;
            without_other = λ y. no_vertex v past (held_in x.nest h v y).0;
            outermost = λ k there out. all k there;
          }))

-- an edge of a graph is one of its digraph
edge_leads : (g : GraphOf) (from : ℕ) (e : EdgeOf) → from < length g.points → Contains (point_at g from).edges e → Edge (digraph_of g) from e.to
edge_leads g from e point has =
    subst (λ (vs : List ℕ). Contains vs e.to) (sym (get_or-map (λ (p : PointOf). targets_of p.edges) g.points from no_point [] point)) (
      has.0,
      omega (arith, has.1, length-map (point_at g from).edges (λ (d : EdgeOf). d.to)),
      get_or-map (λ (d : EdgeOf). d.to) (point_at g from).edges has.0 e e.to has.1 ∙ ap (λ (d : EdgeOf). d.to) has.2,
    )

-- ---- tests that agree give the same

filter_same : (f h : EdgeOf → Bool) (es : List EdgeOf) → ((e : EdgeOf) → Contains es e → f e ≡ h e) → filter f es ≡ filter h es
filter_same f h [] agree = refl
filter_same f h (e ∷ es) agree =
    ap (λ (b : Bool). if b then e ∷ filter f es else filter f es) (agree e (0, omega arith, refl))
    ∙ ap (λ (xs : List EdgeOf). if h e then e ∷ xs else xs) (filter_same f h es (λ d has. agree d (suc has.0, omega (arith, has.1), has.2)))

edges_same : (f h : (from : ℕ) → EdgeOf → Bool) (n : ℕ) (ps : List PointOf)
    → ((k : ℕ) (e : EdgeOf) → k < length ps → Contains (slice_index_or ps k no_point).edges e → f (n + k) e ≡ h (n + k) e) → with_edges f n ps ≡ with_edges h n ps
edges_same f h n [] agree = refl
edges_same f h n (p ∷ ps) agree =
    let first : n + 0 ≡ n = omega arith in
    let here : filter (f n) p.edges ≡ filter (h n) p.edges =
    filter_same (f n) (h n) p.edges (λ e has. subst (λ (m : ℕ). f m e ≡ h m e) first (agree 0 e (omega arith) has)) in
    ap (λ (es : List EdgeOf). let q : PointOf = record p { edges = es } in q ∷ with_edges f (n + 1) ps) here
    ∙ ap (λ (qs : List PointOf). let q : PointOf = record p { edges = filter (h n) p.edges } in q ∷ qs)
    (edges_same f h (n + 1) ps (λ k e low has.
    let moved : n + suc k ≡ (n + 1) + k = omega arith in
    subst (λ (m : ℕ). f m e ≡ h m e) moved (agree (suc k) e (omega (arith, low)) has)))

points_same : (f h : (from : ℕ) → EdgeOf → Bool) (ps : List PointOf)
    → ((k : ℕ) (e : EdgeOf) → k < length ps → Contains (slice_index_or ps k no_point).edges e → f k e ≡ h k e) → with_edges f 0 ps ≡ with_edges h 0 ps
points_same f h ps agree =
    edges_same f h 0 ps (λ k e low has. let number : k ≡ 0 + k = omega arith in subst (λ (m : ℕ). f m e ≡ h m e) number (agree k e low has))

-- component by component
maps_same : {X : Type 0} (f h : Component → X) (cs ds : List Component) → length cs ≡ length ds
    → ((k : ℕ) → k < length cs → f (slice_index_or cs k no_component) ≡ h (slice_index_or ds k no_component)) → map f cs ≡ map h ds
maps_same f h [] [] many agree = refl
maps_same f h [] (d ∷ ds) many agree = absurd (omega (arith, many))
maps_same f h (c ∷ cs) [] many agree = absurd (omega (arith, many))
maps_same {X} f h (c ∷ cs) (d ∷ ds) many agree =
    ap (λ (x : X). x ∷ map f cs) (agree 0 (omega arith))
    ∙ ap (λ (xs : List X). h d ∷ xs) (maps_same f h cs ds (omega (arith, many)) (λ k low. agree (suc k) (omega (arith, low))))

any_mapped : (f : Component → Bool) (cs : List Component) → list_any f cs ≡ list_any (λ (b : Bool). b) (map f cs)
any_mapped f [] = refl
any_mapped f (c ∷ cs) = ap (λ (b : Bool). f c || b) (any_mapped f cs)

any_same : (f h : Component → Bool) (cs ds : List Component) → map f cs ≡ map h ds → list_any f cs ≡ list_any h ds
any_same f h cs ds same = any_mapped f cs ∙ ap (list_any (λ (b : Bool). b)) same ∙ sym (any_mapped h ds)

-- ---- packs

module _ (g : GraphOf) (p q : PlanView) (one other : Level) (x : IsOrdered (digraph_of g) p one) (y : IsOrdered (digraph_of g) q other) where
  are_alike : AreAlike p q
  are_alike =
      alike (digraph_of g) x.nest y.nest p q (λ h u. components_agree (digraph_of g) x.nest y.nest h u x.is_nest y.is_nest) x.axioms y.axioms x.is_plan y.is_plan

  many : length p.components ≡ length q.components
  many =
      sym (length-map p.components (λ (c : Component). c.head)) ∙ ap (λ (hs : List ℕ). length hs) are_alike.heads ∙ length-map q.components (λ (c : Component). c.head)

  pub counts_same : pack_count p ≡ pack_count q
  counts_same = ap (λ (n : ℕ). n + 1) many

  inside_same : (c d : Component) (e : ℕ) → Contains p.components c → Contains q.components d → c.head ≡ d.head → e < p.elements → e < q.elements → is_inside p c e ≡ is_inside q d e
  inside_same c d e in_p in_q heads low high =
      let tells = is_inside_tells p c e x.axioms in_p low in
      let tells_other = is_inside_tells q d e y.axioms in_q high in
      let members = are_alike.members c d e in_p in_q heads in
      both_ways (is_inside p c e) (is_inside q d e) (λ yes. tells_other.1 (members.0 (tells.0 yes))) (λ yes. tells.1 (members.1 (tells_other.0 yes)))

  lies_same : (c d : Component) (from : ℕ) (e : EdgeOf) → Contains p.components c → Contains q.components d → c.head ≡ d.head → from < length g.points → Contains (point_at g from).edges e
      → lies_in p c from e ≡ lies_in q d from e
  lies_same c d from e in_p in_q heads point has =
      let edge = edge_leads g from e point has in
      let low = enough_elements g p one x in
      let high = enough_elements g q other y in
      ap (λ (b : Bool). b && is_inside p c e.to) (inside_same c d from in_p in_q heads (omega (arith, point, low)) (omega (arith, point, high)))
      ∙ ap (λ (b : Bool). is_inside q d from && b)
      (inside_same c d e.to in_p in_q heads (leads_within (digraph_of g) p one x from e.to edge) (leads_within (digraph_of g) q other y from e.to edge))

  -- the components of one number
  lies_at : (k from : ℕ) (e : EdgeOf) → k < length p.components → from < length g.points → Contains (point_at g from).edges e
      → lies_in p (slice_index_or p.components k no_component) from e ≡ lies_in q (slice_index_or q.components k no_component) from e
  lies_at k from e low point has =
      let high : k < length q.components = omega (arith, low, many) in
      lies_same (slice_index_or p.components k no_component) (slice_index_or q.components k no_component) from e
      (Contains-get_or p.components k no_component low) (Contains-get_or q.components k no_component high)
      (sym (get_or-map (λ (c : Component). c.head) p.components k no_component 0 low) ∙ ap (λ (hs : List ℕ). slice_index_or hs k 0) are_alike.heads
      ∙ get_or-map (λ (c : Component). c.head) q.components k no_component 0 high)
      point has

  pub packs_same : (n : ℕ) → packs_of g p n ≡ packs_of g q n
  packs_same n =
      ap (λ (ps : List PointOf). first_asked ps n 0 g.variables ∷ map (λ (c : Component). variables_over g (lies_in p c) n) p.components)
      (points_same (lies_in_none p) (lies_in_none q) g.points none_same)
      ∙ ap (λ (vs : List (List ℕ)). variables_over g (lies_in_none q) n ∷ vs)
      (maps_same (λ (c : Component). variables_over g (lies_in p c) n) (λ (c : Component). variables_over g (lies_in q c) n) p.components q.components many (λ k low.
      ap (λ (ps : List PointOf). first_asked ps n 0 g.variables)
      (points_same (lies_in p (slice_index_or p.components k no_component)) (lies_in q (slice_index_or q.components k no_component)) g.points (λ i e within has. lies_at k i e low within has))))
    where
      none_same : (from : ℕ) (e : EdgeOf) → from < length g.points → Contains (point_at g from).edges e → lies_in_none p from e ≡ lies_in_none q from e
      none_same from e point has =
          ap not (any_same (λ (c : Component). lies_in p c from e) (λ (c : Component). lies_in q c from e) p.components q.components
          (maps_same (λ (c : Component). lies_in p c from e) (λ (c : Component). lies_in q c from e) p.components q.components many (λ k low. lies_at k from e low point has)))

  pub layouts_same : (o : Options) → layout_for g p o ≡ layout_for g q o
  layouts_same o = ap (λ (vs : List (List ℕ)). layout_over g (if o.packs then vs else octagon_variables_of g o.oct ∷ [])) (packs_same o.oct)
