-- The analysis reads from items alone from which constraints lead.
use Rattle.std.proofs.Common.{◌≡◌, ◌⊎◌, inl, inr, ℕ, ◌<◌, List, [], ◌∷◌, length, true, ap, sym, subst, ◌∙◌, refl, arith, Contains}
use Rattle.std.proofs.lemmas.List.{get_or-map, length-map}
use Rattle.pk_graph.specs.Graphs.{GraphOf, PointOf, EdgeOf, point_at, no_point}
use Rattle.pk_graph.specs.WellMade.{IsGraph}
use Rattle.pk_plan.specs.declared.components.Component.{Component}
use Rattle.pk_plan.specs.Digraphs.{IsClosed}
use Rattle.pk_plan.specs.Order.{Level}
use Rattle.pk_plan.proofs.DigraphLemmas.{edge_from_vertex}
use Rattle.pk_plan.specs.Plans.{PlanView, end_of}
use Rattle.pk_plan.proofs.PlanLemmas.{Of, head_inside, head_within, is_inside_tells}
use Rattle.pk_linear.proofs.ListLemmas.{contains_cases}
use Rattle.pk_order.specs.Ordered.{IsPlanned, IsOrdered}
use Rattle.pk_peak.specs.Peak.{leads_from}
use Rattle.pk_iterate.specs.Behaviour.{Behaviour}
use Rattle.pk_iterate.proofs.Ended.{trace_is_one}
use Rattle.pk_phases.specs.declared.equations.Part.{Part}
use Rattle.pk_phases.specs.declared.equations.Part.TheVariants.{Point, HeadOf, ExitOf}
use Rattle.pk_phases.specs.Equations.{reads_in}
use Rattle.pk_analysis.specs.Arrows.{arrows_at, origins, no_edge}
use Rattle.pk_analysis.specs.Digraphs.{digraph_of, targets_of}
use Rattle.pk_analysis.specs.Flows.{Flow, equations_of}
use Rattle.pk_analysis.specs.Made.{IsAnalysisOf}
use Rattle.pk_analysis.specs.Parts.{part_in, part_at}
use Rattle.pk_analysis.specs.declared.analysis.Options.{Options}
use Rattle.pk_sound.proofs.Arrows_at.{origin_edge}
use Rattle.pk_analysis_fits.specs.Analyses.{behaviour_in}
use Rattle.pk_analysis_fits.proofs.Analysing.{IsPartOf, part_of, reads_by, by_graph, analyses}
use Rattle.pk_analysis_fits.proofs.Placed_tasks.{linear_orders}
use Rattle.pk_items.specs.Items.{top_of}
use Rattle.pk_items.proofs.Outermost.{holds_by, member_top}
use Rattle.pk_release.specs.In_order.{state_after}
use Rattle.pk_release.specs.Laws.{ReadsItems}
use Rattle.pk_release.proofs.Counting.{cells_are_kept}
use Rattle.pk_release.proofs.Edges.{edges_lead_from_items}
use Rattle.pk_release.proofs.Going.{every_plan_has_a_line}
use Rattle.pk_peak_laws.specs.Lines.{EveryOrderHasALine, AnalysesKeepWithinPeak}

pub every_order : {C : Type 0} (b : Behaviour C) → EveryOrderHasALine b
every_order b g p order ordered fits ends =
    every_plan_has_a_line b p order ordered.axioms ordered.is_linear (linear_orders p order ordered.axioms ordered.is_linear) fits ends

-- each edge of a graph leads to a point
closed : (g : GraphOf) → IsGraph g → IsClosed (digraph_of g)
closed g graph u v has =
    let row : PointOf → List ℕ = λ (p : PointOf). targets_of p.edges in
    let long : length (digraph_of g) ≡ length g.points = length-map g.points row in
    let low : u < length g.points = (let l = edge_from_vertex (digraph_of g) u v has in omega (arith, l, long)) in
    let edges = (point_at g u).edges in
    let found : Contains (targets_of edges) v = subst (λ (us : List ℕ). Contains us v) (get_or-map row g.points u no_point [] low) has in
    let long_edges = length-map edges (λ (e : EdgeOf). e.to) in
    let k_low : found.0 < length edges = (let l = found.1 in omega (arith, l, long_edges)) in
    let is = get_or-map (λ (e : EdgeOf). e.to) edges found.0 no_edge v k_low in
    let to = ((graph.points u no_point low).edges found.0 no_edge k_low).leads_to_a_point in
    omega (arith, to, is, found.2, long)

-- ---- from which items

abbrev ReadsAt : PlanView → ℕ → ℕ → Type 0
ReadsAt p e u = (top_of p u ≡ top_of p e) ⊎ ((v : ℕ) × (v < end_of p) × (top_of p v ≡ top_of p e) × (leads_from p (top_of p) (top_of p u) v ≡ true))

module _ (g : GraphOf) (p : PlanView) (graph : IsGraph g) (planned : IsPlanned (digraph_of g) p) where
  -- by the edges into an element of the item
  source_reads : (e v u : ℕ) → top_of p v ≡ top_of p e → Contains (origins (arrows_at g v)) u → ReadsAt p e u
  source_reads e v u same found =
      let r = edges_lead_from_items (digraph_of g) p (closed g graph) planned u v (origin_edge g v u found) in
      elim r.1 [
        | inl is ↦ inl (is ∙ same)
        | inr leads ↦ inr (v, r.0, same, leads)
      ]

  -- a head lies in the item of its exit
  head_exit : (c : Component) → Of p c → top_of p c.head ≡ top_of p c.exit
  head_exit c of =
      let low = head_within p c planned.axioms of in
      member_top p planned.axioms c.exit c.head (holds_by p planned.axioms c of c.head low ((is_inside_tells p c c.head planned.axioms of low).1 (head_inside p c planned.axioms of)))

  part_reads : (e u : ℕ) (part : Part) → IsPartOf p.components e part → (reads : List ℕ) → reads_by g e part ≡ reads → Contains reads u → ReadsAt p e u
  part_reads e u Point is reads same found = source_reads e e u refl (subst (λ (us : List ℕ). Contains us u) (sym same) found)
  part_reads e u (HeadOf exit) is reads same found =
      elim (contains_cases exit u (e ∷ origins (arrows_at g e)) (subst (λ (us : List ℕ). Contains us u) (sym same) found)) [
        | inl at ↦ inl (ap (top_of p) (sym at ∙ sym is.3) ∙ sym (head_exit is.0 is.1) ∙ ap (top_of p) is.2)
        | inr later ↦ elim (contains_cases e u (origins (arrows_at g e)) later) [
          | inl at ↦ inl (ap (top_of p) (sym at))
          | inr more ↦ source_reads e e u refl more
        ]
      ]
  part_reads e u (ExitOf head) is reads same found =
      let head_top : top_of p head ≡ top_of p e = ap (top_of p) (sym is.3) ∙ head_exit is.0 is.1 ∙ ap (top_of p) is.2 in
      elim (contains_cases e u (head ∷ origins (arrows_at g head)) (subst (λ (us : List ℕ). Contains us u) (sym same) found)) [
        | inl at ↦ inl (ap (top_of p) (sym at))
        | inr later ↦ elim (contains_cases head u (origins (arrows_at g head)) later) [
          | inl at ↦ inl (ap (top_of p) (sym at) ∙ head_top)
          | inr more ↦ source_reads e head u head_top more
        ]
      ]

analyses_read : (g : GraphOf) (o : Options) (p : PlanView) (order : Level) (a : Flow) → IsGraph g → IsAnalysisOf g p o a → IsOrdered (digraph_of g) p order → ReadsItems (behaviour_in a) p
analyses_read g o p order a graph is ordered e u below found =
    let planned : IsPlanned (digraph_of g) p = record { nest = ordered.nest; is_nest = ordered.is_nest; axioms = ordered.axioms; is_plan = ordered.is_plan } in
    let part : part_at a.parts e ≡ part_in p.components e = is.parts.each e below in
    let reads : reads_in (equations_of a) e (part_at a.parts e) ≡ reads_by g e (part_at a.parts e) = by_graph a e (part_at a.parts e) ∙ ap (λ (k : GraphOf). reads_by k e (part_at a.parts e)) is.graph in
    part_reads g p graph planned e u (part_at a.parts e) (subst (IsPartOf p.components e) (sym part) (part_of p.components e)) (reads_in (equations_of a) e (part_at a.parts e)) (sym reads) found

pub analyses_keep_within_peak : AnalysesKeepWithinPeak
analyses_keep_within_peak g o p order a most it is =
    let b = behaviour_in a in
    let ends = ((trace_is_one b).results order p.elements most it is.result).0 in
    let line = every_order b (digraph_of g) p order is.ordered (analyses g o p order a is.analysis is.ordered) ends in
    let reads = analyses_read g o p order a is.graph is.analysis is.ordered in
    record {
      line = line;
      cells = λ k. (
          let left = cells_are_kept b p (state_after b p line.events k) reads in
          let kept = line.within_peak k in
          omega (arith, left, kept));
    }
