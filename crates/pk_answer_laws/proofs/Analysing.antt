-- The analysis of a graph, and how it ends.
use Rattle.std.proofs.Common.{◌≡◌, ◌⊎◌, inl, inr, true, ℕ, zero, suc, ◌+◌, ◌*◌, ◌<◌, ◌^◌, List, [], ◌∷◌, ◌++◌, length, map, refl, sym, ap, subst, ◌∙◌, arith, zero-add, Contains, All}
use Rattle.std.specs.Prelude.{take}
use Rattle.std.specs.List.{slice_index_or, range_with_len}
use Rattle.std.proofs.lemmas.Bool.{cases_Bool, cases_lt}
use Rattle.std.proofs.lemmas.List.{map-append, length-map, get_or-map}
use Rattle.std.proofs.lemmas.List.FromFn.{length-map-range_with_len, get_or-map-range_with_len}
use Rattle.std.proofs.lemmas.List.Elements.{All-nil, All-head, All-tail, All-map, All-contains}
use Rattle.pk_graph.specs.Accesses.{accesses_of}
use Rattle.pk_graph.specs.Graphs.{EdgeOf, PointOf, GraphOf, no_point, point_at}
use Rattle.pk_graph.specs.WellMade.{IsGraph, IsPointOf, IsEdgeOf}
use Rattle.pk_state.specs.Facts.{Stated}
use Rattle.pk_plan.specs.declared.places.Place.{Place}
use Rattle.pk_plan.specs.declared.places.Role.TheVariants.{Exit}
use Rattle.pk_plan.specs.Digraphs.{IsClosed}
use Rattle.pk_plan.specs.Order.{Level, Empty, Vertex_then, Component_then, places_of}
use Rattle.pk_plan.specs.Plans.{PlanView}
use Rattle.pk_plan.specs.Linear.{elements_of}
use Rattle.pk_order.specs.Ordered.{IsOrdered, heads_of}
use Rattle.pk_packs.specs.Packs.{pack_count, pack_limit}
use Rattle.pk_order_laws.specs.Digraphs.{EveryDigraphHasAnOrder}
use Rattle.pk_iterate.specs.Behaviour.{Behaviour}
use Rattle.pk_iterate.specs.Iteration.{count_of, cell_after, progress}
use Rattle.pk_iterate.specs.Answer.{Over, IsResult}
use Rattle.pk_iterate.specs.Outcome.{Outcome}
use Rattle.pk_iterate.specs.Laws.{PlacesWithin}
use Rattle.pk_iterate.proofs.Whole.{past_or_not, bounded_is_whole}
use Rattle.pk_iterate.proofs.Ended.{trace_is_one}
use Rattle.pk_phases.specs.declared.equations.Part.{Part}
use Rattle.pk_phases.specs.declared.equations.Part.TheVariants.{Point}
use Rattle.pk_phases.specs.declared.equations.Cell.{Cell}
use Rattle.pk_phases.specs.Equations.{behaviour_of}
use Rattle.pk_analysis.specs.declared.analysis.Options.{Options}
use Rattle.pk_analysis.specs.Digraphs.{targets_of, digraph_of}
use Rattle.pk_analysis.specs.Flows.{Flow, equations_of, reduced_cell}
use Rattle.pk_analysis.specs.Layouts.{layout_for, HasFewPacks}
use Rattle.pk_analysis.specs.Made.{IsAnalysisOf}
use Rattle.pk_analysis.specs.Parts.{part_in, AreParts}
use Rattle.pk_report.specs.Reports.{report_text, summary_text, unknown_in}
use Rattle.pk_analysis_laws.specs.Systems.{HasManyPacks, IsOver}
use Rattle.pk_solver.specs.Solved.{AreStates}
use Rattle.pk_peak.specs.Texts.{order_lines}
use Rattle.pk_graph_report.specs.Reported.{verdicts_of}
use Rattle.pk_answer_laws.specs.Analyses.{HasRoom, EveryGraphIsReported, EveryGraphIsSummed, EveryGraphIsOrdered}
use Rattle.pk_answer_laws.proofs.Stops.{thresholds_of, are_thresholds}

-- ---- the order

row_is : (ps : List PointOf) (u : ℕ) → slice_index_or (map (λ (p : PointOf). targets_of p.edges) ps) u [] ≡ targets_of (slice_index_or ps u no_point).edges
row_is [] u = refl
row_is (p ∷ ps) zero = refl
row_is (p ∷ ps) (suc u) = row_is ps u

edges_of : (g : GraphOf) (ps : List PointOf) (u : ℕ) → All (IsPointOf g) ps → All (IsEdgeOf g) (slice_index_or ps u no_point).edges
edges_of g [] u h = All-nil (IsEdgeOf g)
edges_of g (p ∷ ps) zero h = (All-head (IsPointOf g) p ps h).edges
edges_of g (p ∷ ps) (suc u) h = edges_of g ps u (All-tail (IsPointOf g) p ps h)

closed : (g : GraphOf) → IsGraph g → IsClosed (digraph_of g)
closed g made u v has =
    let edges = edges_of g g.points u made.points in
    let targets = All-map (λ (x : ℕ). x < length g.points) (λ (e : EdgeOf). e.to) (point_at g u).edges (λ k d h. (edges k d h).leads_to_a_point) in
    let moved = subst (λ (row : List ℕ). Contains row v) (row_is g.points u) has in
    subst (λ (n : ℕ). v < n) (sym (length-map g.points (λ (p : PointOf). targets_of p.edges))) (All-contains (λ (x : ℕ). x < length g.points) (targets_of (point_at g u).edges) v targets moved)

pub order_of : EveryDigraphHasAnOrder → (g : GraphOf) → IsGraph g → (p : PlanView) × (order : Level) × IsOrdered (digraph_of g) p order
order_of law g made = law (digraph_of g) (closed g made) (subst (λ (n : ℕ). n < 2 ^ 31) (sym (length-map g.points (λ (p : PointOf). targets_of p.edges))) made.few)

pub ordered : EveryDigraphHasAnOrder → EveryGraphIsOrdered
ordered law g with_peak made =
    let x = order_of law g made in
    (order_lines x.0 x.1 with_peak, record { plan = x.0; order = x.1; ordered = x.2; told = refl })

elements_of_places : (level : Level) → map (λ (p : Place). p.element) (places_of level) ≡ elements_of level
elements_of_places Empty = refl
elements_of_places (Vertex_then v more) = ap (λ (es : List ℕ). v ∷ es) (elements_of_places more)
elements_of_places (Component_then head exit rest more) =
    let last : Place = record { element = exit; role = Exit (length (places_of rest) + 1) } in
    ap (λ (es : List ℕ). head ∷ es)
    (map-append (λ (p : Place). p.element) (places_of rest) (last ∷ places_of more)
    ∙ ap (λ (es : List ℕ). es ++ exit ∷ map (λ (p : Place). p.element) (places_of more)) (elements_of_places rest)
    ∙ ap (λ (es : List ℕ). elements_of rest ++ exit ∷ es) (elements_of_places more))

places_within : (order : Level) (n : ℕ) → All (λ (e : ℕ). e < n) (elements_of order) → PlacesWithin order n
places_within order n h k d below =
    let element : Place → ℕ = λ (p : Place). p.element in
    let all = subst (λ (es : List ℕ). All (λ (e : ℕ). e < n) es) (sym (elements_of_places order)) h in
    subst (λ (e : ℕ). e < n) (get_or-map element (places_of order) k d d.element below) (all k d.element (subst (λ (m : ℕ). k < m) (sym (length-map (places_of order) element)) below))

-- ---- the flow

abbrev parts_of : PlanView → List Part
parts_of p = map (part_in p.components) (range_with_len 0 p.elements)

are_parts : (p : PlanView) → AreParts p (parts_of p)
are_parts p = record {
  size = length-map-range_with_len (part_in p.components) 0 p.elements;
  each = λ e below. get_or-map-range_with_len (part_in p.components) 0 p.elements e e Point below (zero-add e);
}

module _ (g : GraphOf) (o : Options) (p : PlanView) (room : HasRoom g) where
  abbrev flow_of : Flow
  flow_of = record { graph = room.value; layout = layout_for g p o; thresholds = thresholds_of g; parts = parts_of p; delay = o.delay; narrow = o.narrow }

  is_analysis : HasFewPacks p o → IsAnalysisOf g p o flow_of
  is_analysis few = record { graph = room.shows; layout = refl; few = few; thresholds = are_thresholds g; parts = are_parts p; delay = refl; narrow = refl }

-- packs are asked for, and there are too many, or there aren't
many_or_few : (o : Options) (p : PlanView) → ((o.packs ≡ true) × (pack_limit < pack_count p)) ⊎ HasFewPacks p o
many_or_few o p = elim (cases_Bool o.packs) [
  | inl asked ↦ elim (cases_lt pack_limit (pack_count p)) [ inl many ↦ inl (asked, many) | inr few ↦ inr (λ e. few) ]
  | inr one ↦ inr (λ asked. absurd (cc))
]

-- ---- the iteration

abbrev outcome_of : {C : Type 0} → Behaviour C → Level → (elements most : ℕ) → Outcome C
outcome_of b order elements most = record {
  cells = map (cell_after b (progress b order (elements * most + 1)).runs) (range_with_len 0 elements);
  runs = map (count_of (progress b order (elements * most + 1)).runs) (range_with_len 0 elements);
}

over_or_result : {C : Type 0} (b : Behaviour C) (order : Level) (elements most : ℕ) → PlacesWithin order elements → Over b order elements most ⊎ IsResult b order elements most (outcome_of b order elements most)
over_or_result b order elements most within = elim (past_or_not (count_of (progress b order (elements * most + 1)).runs) elements most) [
  | inl over ↦ inl over
  | inr few ↦
      let whole = bounded_is_whole b order elements most within few in
      inr (record {
        within = λ over. absurd (omega (arith, over.2, few over.0 over.1));
        goes = (trace_is_one b).goes order (record { made = elements * most + 1; whole = whole });
        whole = whole;
        cells_after = refl;
        counts = refl;
      })
]

-- ---- the report

-- the states of a graph, or an element that would be run too often, where there aren't too many packs
iterated : (g : GraphOf) (o : Options) (most : ℕ) → HasRoom g → (p : PlanView) (order : Level) → IsOrdered (digraph_of g) p order → HasFewPacks p o
    → ((p : PlanView) × (states : List Stated) × AreStates g o most p states) ⊎ IsOver g o most
iterated g o most room p order ordered few =
    let flow = flow_of g o p room in
    let b : Behaviour (Cell Stated) = behaviour_of (equations_of flow) in
    elim (over_or_result b order p.elements most (places_within order p.elements ordered.is_linear.within)) [
      | inl over ↦ inr (record { plan = p; order = order; flow = flow; system = record { ordered = ordered; analysis = is_analysis g o p room few }; over = over })
      | inr result ↦
          let outcome = outcome_of b order p.elements most in
          inl (
            p,
            map (reduced_cell flow) (take (length g.points) outcome.cells),
            record { order = order; flow = flow; system = record { ordered = ordered; analysis = is_analysis g o p room few }; outcome = outcome; result = result; reduced = refl },
          )
    ]

pub analysed : EveryDigraphHasAnOrder → (g : GraphOf) (o : Options) (most : ℕ) → IsGraph g → HasRoom g
    → ((p : PlanView) × (states : List Stated) × AreStates g o most p states) ⊎ (HasManyPacks g o ⊎ IsOver g o most)
analysed law g o most made room =
    let x = order_of law g made in
    elim (many_or_few o x.0) [
      | inl (asked, many) ↦ inr (inl (record { plan = x.0; order = x.1; ordered = x.2; asked = asked; many = many }))
      | inr few ↦ elim (iterated g o most room x.0 x.1 x.2 few) [ inl states ↦ inl states | inr over ↦ inr (inr over) ]
    ]

pub reported : EveryDigraphHasAnOrder → EveryGraphIsReported
reported law g o most all made room = elim (analysed law g o most made room) [
  | inl x ↦ inl (unknown_in (verdicts_of g x.1), report_text all g (heads_of x.0) x.0.elements x.1 (accesses_of g) (verdicts_of g x.1), record { plan = x.0; states = x.1; are_states = x.2; counted = refl; told = refl })
  | inr none ↦ inr none
]

pub summed : EveryDigraphHasAnOrder → EveryGraphIsSummed
summed law g o most seed size text_length made room = elim (analysed law g o most made room) [
  | inl x ↦ inl (unknown_in (verdicts_of g x.1), summary_text seed size text_length g x.0.elements (verdicts_of g x.1), record { plan = x.0; states = x.1; are_states = x.2; counted = refl; told = refl })
  | inr none ↦ inr none
]
