-- The result is a post-fixpoint.
use Rattle.std.proofs.Common.{◌≡◌, ◌<◌, ◌+◌, ◌*◌, ◌⊎◌, inl, inr, ℕ, ℤ, ap, ◌∙◌, sym, subst, refl, Option, None, List, [], ◌∷◌, map, length, All, Contains, arith, true}
use Rattle.std.specs.List.{slice_index_or}
use Rattle.std.proofs.lemmas.List.{length-map}
use Rattle.std.proofs.lemmas.List.FromFn.{get_or-map-range_with_len}
use Rattle.std.proofs.lemmas.List.Elements.{All-map, All-head, All-tail}
use Rattle.pk_graph.specs.Graphs.{PointOf, GraphOf, kinds_of}
use Rattle.pk_graph.specs.WellMade.{IsGraph}
use Rattle.pk_state.specs.Layouts.{Layout, IsLayout}
use Rattle.pk_state.specs.Facts.{Facts, Stated, AreFactsIf, IsBelow}
use Rattle.pk_transfer.specs.Trees.{IsOver}
use Rattle.pk_plan.specs.declared.components.Component.{Component}
use Rattle.pk_plan.specs.Order.{Level}
use Rattle.pk_plan.specs.Plans.{PlanView}
use Rattle.pk_order.specs.Ordered.{IsOrdered}
use Rattle.pk_iterate.specs.Iteration.{cell_after, progress}
use Rattle.pk_iterate.specs.Outcome.{Outcome}
use Rattle.pk_iterate.specs.Answer.{IsResult}
use Rattle.pk_iterate.specs.Ending.{Ends}
use Rattle.pk_iterate.proofs.Held.{held}
use Rattle.pk_phases.specs.declared.equations.Cell.{Cell}
use Rattle.pk_phases.specs.declared.equations.Cell.TheVariants.{Value}
use Rattle.pk_phases.specs.declared.equations.Part.{Part}
use Rattle.pk_phases.specs.declared.equations.Part.TheVariants.{Point}
use Rattle.pk_phases.specs.Equations.{Equations, value_of, behaviour_of, may_hold_of}
use Rattle.pk_phases.specs.EquationsHeld.{value_at, equations_hold}
use Rattle.pk_phases.specs.Solved.{AreSolved}
use Rattle.pk_phases.proofs.Solved_end.{end_is_solved}
use Rattle.pk_analysis.specs.declared.arrows.Arrow.{Arrow}
use Rattle.pk_analysis.specs.Arrows.{arrows_at, origins}
use Rattle.pk_analysis.specs.Digraphs.{targets_of, digraph_of}
use Rattle.pk_analysis.specs.Parts.{part_at, AreParts}
use Rattle.pk_analysis.specs.Flows.{stated, equation}
use Rattle.pk_analysis.specs.Orders.{is_below}
use Rattle.pk_analysis.proofs.Layouting.{layouts_over}
use Rattle.pk_sound.specs.Solved.{ResultIsSolved}
use Rattle.pk_sound.proofs.Ahead.{order_once, element_in, has_component}
use Rattle.pk_sound.proofs.Arrows_at.{arrows_to}
use Rattle.pk_sound.proofs.Below.{below_from, below_itself}
use Rattle.pk_sound.proofs.Facts_at.{KnowsFacts, equation_stays, system_keeps}
use Rattle.pk_sound.proofs.Fitting.{plan_fits}
use Rattle.pk_sound.proofs.Parting.{point_is, parts_are, sources_ahead}
use Rattle.pk_sound.proofs.Systems.{system_of}

-- the facts of the cells of elements, read in two ways
same_facts : (f : ℕ → Cell Stated) (k : ℕ → Option Facts) (bottom : Stated) (n : ℕ) → ((u : ℕ) → u < n → (value_of bottom (f u)).facts ≡ k u) → (us : List ℕ) → All (λ u. u < n) us
    → map (λ (s : Stated). s.facts) (map (value_of bottom) (map f us)) ≡ map k us
same_facts f k bottom n each [] h = refl
same_facts f k bottom n each (u ∷ us) h =
    ap (λ (x : Option Facts). x ∷ map (λ (s : Stated). s.facts) (map (value_of bottom) (map f us))) (each u (All-head (λ x. x < n) u us h))
    ∙ ap (λ (xs : List (Option Facts)). k u ∷ xs) (same_facts f k bottom n each us (All-tail (λ x. x < n) u us h))

-- what is known in an element's cell, where the cells are those of a result
abbrev known_of : Layout → Outcome (Cell Stated) → ℕ → Option Facts
known_of l it v = (value_of (stated l None) (slice_index_or it.cells v (Value (stated l None)))).facts

record IsSolvedBy (g : GraphOf) (l : Layout) (it : Outcome (Cell Stated)) (v : ℕ) : Type 0 where
  given : AreFactsIf l (equation g l v (map (known_of l it) (origins (arrows_at g v))))
  known : AreFactsIf l (known_of l it v)
  below : IsBelow (equation g l v (map (known_of l it) (origins (arrows_at g v)))) (known_of l it v)

module _ (g : GraphOf) (l : Layout) (thresholds : List ℤ) (parts : List Part) (delay narrow : ℕ) (p : PlanView) (order : Level) (most : ℕ) (it : Outcome (Cell Stated))
    (made : IsGraph g) (lay : IsLayout l) (over : IsOver (kinds_of g) l) (are : AreParts p parts) (ordered : IsOrdered (digraph_of g) p order)
    (result : IsResult (behaviour_of (system_of g l thresholds parts delay narrow)) order p.elements most it) where
  abbrev system : Equations Stated
  system = system_of g l thresholds parts delay narrow

  -- the cells that the whole trace leaves
  abbrev found : ℕ → Cell Stated
  found v = cell_after (behaviour_of system) (progress (behaviour_of system) order (p.elements * most + 1)).runs v

  abbrev ends : Ends (behaviour_of system) order
  ends = record { made = p.elements * most + 1; whole = result.whole }

  solved : AreSolved system order ends
  solved =
      end_is_solved system order (order_once p order ordered.axioms ordered.is_linear) (parts_are g l thresholds parts delay narrow p order ordered.axioms ordered.is_linear are)
      (sources_ahead g l thresholds parts delay narrow p order ordered.axioms ordered.is_linear are (plan_fits (digraph_of g) ordered.nest p ordered.is_nest ordered.axioms ordered.is_plan)) ends

  points_are : p.points ≡ length g.points
  points_are = ordered.is_plan.points ∙ length-map g.points (λ (q : PointOf). targets_of q.edges)

  point_inside : (v : ℕ) → v < length g.points → v < p.elements
  point_inside v h = omega (arith, h, points_are, ordered.axioms.counted)

  facts_are : (v : ℕ) → v < p.elements → (value_of (stated l None) (found v)).facts ≡ known_of l it v
  facts_are v h =
      let bottom : Cell Stated = Value (stated l None) in
      let same : slice_index_or it.cells v bottom ≡ found v = ap (λ (cs : List (Cell Stated)). slice_index_or cs v bottom) result.cells_after ∙ get_or-map-range_with_len found 0 p.elements v v bottom h (omega arith) in
      ap (λ (c : Cell Stated). (value_of (stated l None) c).facts) (sym same)

  known_stays : (v : ℕ) → v < p.elements → AreFactsIf l (known_of l it v)
  known_stays v h =
      let keeps = system_keeps g l made lay over thresholds parts delay narrow in
      subst (AreFactsIf l) (facts_are v h)
      (value_at system (KnowsFacts l) keeps v (part_at parts v) (found v)
      (held (behaviour_of system) (may_hold_of system (KnowsFacts l)) (equations_hold system (KnowsFacts l) keeps) order (p.elements * most + 1) v))

  origins_inside : (v : ℕ) → All (λ u. u < p.elements) (origins (arrows_at g v))
  origins_inside v = All-map (λ (u : ℕ). u < p.elements) (λ (r : Arrow). r.from) (arrows_at g v) (λ k d h. point_inside (slice_index_or (arrows_at g v) k d).from (arrows_to g v k d h).point)

  abbrev given : ℕ → Option Facts
  given v = equation g l v (map (known_of l it) (origins (arrows_at g v)))

  -- what the equation gives of the cells
  abbrev made_of_cells : ℕ → Option Facts
  made_of_cells v = equation g l v (map (λ (s : Stated). s.facts) (map (value_of (stated l None)) (map found (origins (arrows_at g v)))))

  given_is : (v : ℕ) → made_of_cells v ≡ given v
  given_is v = ap (equation g l v) (same_facts found (known_of l it) (stated l None) p.elements facts_are (origins (arrows_at g v)) (origins_inside v))

  given_stays : (v : ℕ) → AreFactsIf l (given v)
  given_stays v =
      equation_stays g l made lay over v (map (known_of l it) (origins (arrows_at g v)))
      (All-map (AreFactsIf l) (known_of l it) (origins (arrows_at g v)) (λ k d h. known_stays (slice_index_or (origins (arrows_at g v)) k d) (origins_inside v k d h)))

  point_known : (v : ℕ) → v < p.elements → part_at parts v ≡ Point → given v ≡ known_of l it v
  point_known v h point =
      let cell = solved.points v (element_in p order ordered.axioms ordered.is_linear v h) point in
      sym (given_is v) ∙ sym (ap (λ (c : Cell Stated). (value_of (stated l None) c).facts) cell) ∙ facts_are v h

  head_below : (c : Component) → Contains p.components c → is_below (made_of_cells c.head) (value_of (stated l None) (found c.head)).facts ≡ true
  head_below c of = solved.heads c.head c.exit (has_component p order ordered.axioms ordered.is_linear c of)

  below_at : (v : ℕ) → v < length g.points → (part_at parts v ≡ Point) ⊎ ((c : Component) × Contains p.components c × (c.head ≡ v)) → IsBelow (given v) (known_of l it v)
  below_at v h (inl point) = subst (IsBelow (given v)) (point_known v (point_inside v h) point) (below_itself (given v))
  below_at v h (inr c) =
      let test = subst (λ (w : ℕ). is_below (made_of_cells w) (value_of (stated l None) (found w)).facts ≡ true) c.2 (head_below c.0 c.1) in
      let one = subst (λ (f : Option Facts). is_below f (value_of (stated l None) (found v)).facts ≡ true) (given_is v) test in
      let both = subst (λ (f : Option Facts). is_below (given v) f ≡ true) (facts_are v (point_inside v h)) one in
      below_from l (given v) (known_of l it v) (given_stays v) (known_stays v (point_inside v h)) both

  solved_by : (v : ℕ) → v < length g.points → IsSolvedBy g l it v
  solved_by v h = record {
    given = given_stays v;
    known = known_stays v (point_inside v h);
    below = below_at v h (point_is p ordered.axioms parts are v (omega (arith, h, points_are)));
  }

pub result_is_solved : ResultIsSolved
result_is_solved g o p order a most it is v h =
    let lay : IsLayout a.layout = subst IsLayout (sym is.analysis.layout) (layouts_over.layouts g p o is.oct) in
    let over : IsOver (kinds_of g) a.layout = subst (IsOver (kinds_of g)) (sym is.analysis.layout) (layouts_over.over g p o) in
    let result = subst (λ (k : GraphOf). IsResult (behaviour_of (system_of k a.layout a.thresholds a.parts a.delay a.narrow)) order p.elements most it) is.analysis.graph is.result in
    let s = solved_by g a.layout a.thresholds a.parts a.delay a.narrow p order most it is.graph lay over is.analysis.parts is.ordered result v h in
    record { given = s.given; known = s.known; below = s.below }
