-- The analysis fits the plan of its digraph.
use Rattle.std.proofs.Common.{◌≡◌, ◌⊎◌, inl, inr, ℕ, List, [], ◌∷◌, ap, sym, subst, ◌∙◌, refl, Contains}
use Rattle.std.proofs.lemmas.Bool.Decides.{eqb_tells}
use Rattle.pk_graph.specs.Graphs.{GraphOf}
use Rattle.pk_graph.specs.Shown.{graph_view}
use Rattle.pk_plan.specs.declared.components.Component.{Component}
use Rattle.pk_plan.specs.Digraphs.{Edge}
use Rattle.pk_plan.specs.Plans.{PlanView, Precedes}
use Rattle.pk_wpo.specs.Made.{Fits}
use Rattle.pk_linear.proofs.ListLemmas.{contains_here, contains_there, contains_cases}
use Rattle.pk_iterate.proofs.Ended.{trace_is_one}
use Rattle.pk_phases.specs.declared.equations.Part.{Part}
use Rattle.pk_phases.specs.declared.equations.Part.TheVariants.{Point, HeadOf, ExitOf}
use Rattle.pk_phases.specs.Equations.{reads_in}
use Rattle.pk_analysis.specs.Arrows.{arrows_at, origins}
use Rattle.pk_analysis.specs.Digraphs.{digraph_of}
use Rattle.pk_analysis.specs.Flows.{Flow, equations_of}
use Rattle.pk_analysis.specs.Parts.{part_in, part_at}
use Rattle.pk_sound.proofs.Arrows_at.{origin_edge}
use Rattle.pk_sound.proofs.Fitting.{plan_fits}
use Rattle.pk_iterate.specs.Fits.{IsHeadOver}
use Rattle.pk_analysis_fits.specs.Analyses.{behaviour_in, AnalysesFit, AnalysesKeep}
use Rattle.pk_analysis_fits.proofs.Scheduling.{every_order, as_iterated}

-- what an element is by the components: nothing of them, a head with its exit, or an exit with its head
abbrev pub IsPartOf : List Component → ℕ → Part → Type 0
IsPartOf cs e Point = Unit {0}
IsPartOf cs e (HeadOf exit) = (c : Component) × Contains cs c × (c.head ≡ e) × (c.exit ≡ exit)
IsPartOf cs e (ExitOf head) = (c : Component) × Contains cs c × (c.exit ≡ e) × (c.head ≡ head)

later_part : (d : Component) (cs : List Component) (e : ℕ) (part : Part) → IsPartOf cs e part → IsPartOf (d ∷ cs) e part
later_part d cs e Point is = tt
later_part d cs e (HeadOf exit) is = (is.0, contains_there d cs is.1, is.2, is.3)
later_part d cs e (ExitOf head) is = (is.0, contains_there d cs is.1, is.2, is.3)

pub part_of : (cs : List Component) (e : ℕ) → IsPartOf cs e (part_in cs e)
part_of [] e = tt
part_of (d ∷ cs) e = elim (eqb_tells d.head e) [
  | inl equal ↦ rw equal.0 (d, contains_here d cs, equal.1, refl)
  | inr differs ↦ elim (eqb_tells d.exit e) [
    | inl equal ↦ rw (differs.0, equal.0) (d, contains_here d cs, equal.1, refl)
    | inr other ↦ rw (differs.0, other.0) (later_part d cs e (part_in cs e) (part_of cs e))
  ]
]

-- what an element of this part reads
abbrev pub reads_by : GraphOf → ℕ → Part → List ℕ
reads_by g e Point = origins (arrows_at g e)
reads_by g e (HeadOf exit) = exit ∷ (e ∷ origins (arrows_at g e))
reads_by g e (ExitOf head) = e ∷ (head ∷ origins (arrows_at g head))

pub by_graph : (a : Flow) (e : ℕ) (part : Part) → reads_in (equations_of a) e part ≡ reads_by (graph_view a.graph) e part
by_graph a e Point = refl
by_graph a e (HeadOf exit) = refl
by_graph a e (ExitOf head) = refl

-- an element and what it reads
abbrev FitsAt : PlanView → ℕ → ℕ → Type 0
FitsAt p e u = (u ≡ e) ⊎ (Precedes p u e ⊎ IsHeadOver p e u)

module _ (g : GraphOf) (p : PlanView) (fits : Fits (digraph_of g) p) where
  source_fits : (e u : ℕ) → Contains (origins (arrows_at g e)) u → FitsAt p e u
  source_fits e u found = elim (fits.edges u e (origin_edge g e u found)) [
    | inl before ↦ inr (inl before)
    | inr back ↦ inr (inr (record { component = back.0; of = back.1; head = back.2; over = inl back.3 }))
  ]

  part_fits : (e u : ℕ) (part : Part) → IsPartOf p.components e part → (reads : List ℕ) → reads_by g e part ≡ reads → Contains reads u → FitsAt p e u
  part_fits e u Point is reads same found = source_fits e u (subst (λ (us : List ℕ). Contains us u) (sym same) found)
  part_fits e u (HeadOf exit) is reads same found =
      elim (contains_cases exit u (e ∷ origins (arrows_at g e)) (subst (λ (us : List ℕ). Contains us u) (sym same) found)) [
        | inl at ↦ inr (inr (record { component = is.0; of = is.1; head = is.2; over = inr (sym at ∙ sym is.3) }))
        | inr later ↦ elim (contains_cases e u (origins (arrows_at g e)) later) [ inl at ↦ inl (sym at) | inr more ↦ source_fits e u more ]
      ]
  part_fits e u (ExitOf head) is reads same found =
      elim (contains_cases e u (head ∷ origins (arrows_at g head)) (subst (λ (us : List ℕ). Contains us u) (sym same) found)) [
        | inl at ↦ inl (sym at)
        | inr later ↦ elim (contains_cases head u (origins (arrows_at g head)) later) [
          | inl at ↦ inr (inl (subst (λ (k : ℕ). Precedes p k e) (is.3 ∙ at) (subst (λ (k : ℕ). Precedes p is.0.head k) is.2 (fits.head_of_exit is.0 is.1))))
          | inr more ↦ inr (inl (subst (λ (k : ℕ). Precedes p u k) is.2 (fits.inputs_of_exit is.0 u is.1 (subst (λ (h : ℕ). Edge (digraph_of g) u h) (sym is.3) (origin_edge g head u more)))))
        ]
      ]

pub analyses : AnalysesFit
analyses g o p order a is ordered e u below found =
    let fits = plan_fits (digraph_of g) ordered.nest p ordered.is_nest ordered.axioms ordered.is_plan in
    let part : part_at a.parts e ≡ part_in p.components e = is.parts.each e below in
    let reads : reads_in (equations_of a) e (part_at a.parts e) ≡ reads_by g e (part_at a.parts e) = by_graph a e (part_at a.parts e) ∙ ap (λ (k : GraphOf). reads_by k e (part_at a.parts e)) is.graph in
    part_fits g p fits e u (part_at a.parts e) (subst (IsPartOf p.components e) (sym part) (part_of p.components e)) (reads_in (equations_of a) e (part_at a.parts e)) (sym reads) found

pub analyses_kept : AnalysesKeep
analyses_kept g o p order a most it events is all =
    let fits = analyses g o p order a is.analysis is.ordered in
    let r = (trace_is_one (behaviour_in a)).results order p.elements most it is.result in
    record {
      ends = r.0;
      keeps = (every_order (behaviour_in a)).keeps (digraph_of g) p order r.0 events is.ordered fits all;
      result = λ done. as_iterated (behaviour_in a) (digraph_of g) p order most it events is.ordered fits is.result all done;
    }
