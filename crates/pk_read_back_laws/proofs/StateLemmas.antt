-- What is known at the points of a graph, and the verdicts on its accesses, can be told.
use Rattle.std.specs.Prelude.{◌≡◌, ℕ, suc, ◌+◌, ◌*◌, ◌<◌, ◌≤◌, ◌^◌, ◌⊎◌, List, [], ◌∷◌, length, map, take, slice_index_or, All, None}
use Rattle.std.specs.List.{range_with_len, zip}
use Rattle.std.proofs.Common.{arith, refl, sym, ap, subst, ◌∙◌, inl, inr}
use Rattle.std.proofs.lemmas.Bool.{cases_lt}
use Rattle.std.proofs.lemmas.List.{length-map, length-take-le, get_or-map, get_or-take, get_or_past}
use Rattle.std.proofs.lemmas.List.FromFn.{length-range_with_len}
use Rattle.std.proofs.lemmas.List.Elements.{All-nil, All-cons, All-head, All-tail, All-get_or, All-map}
use Rattle.pk_graph.specs.declared.verdicts.Verdict.{Verdict}
use Rattle.pk_graph.specs.declared.verdicts.Verdict.TheVariants.{Safe, Unknown, Unreachable}
use Rattle.pk_graph.specs.Accesses.{AccessOf, accesses_of}
use Rattle.pk_graph.specs.Graphs.{EdgeOf, PointOf, GraphOf}
use Rattle.pk_graph.specs.WellMade.{IsGraph}
use Rattle.pk_state.specs.Layouts.{Layout}
use Rattle.pk_state.specs.Facts.{Stated, AreFactsIf}
use Rattle.pk_state.proofs.Held.{facts_stay}
use Rattle.pk_plan.specs.declared.components.Component.{Component}
use Rattle.pk_plan.specs.Plans.{PlanView}
use Rattle.pk_plan.proofs.PlanLemmas.{length-rising}
use Rattle.pk_verdict.specs.Verdicts.{verdict_of}
use Rattle.pk_verdict.specs.Typed.{IsAccessOver}
use Rattle.pk_verdict.proofs.Accessing.{accesses_over}
use Rattle.pk_iterate.specs.Iteration.{cell_after, progress}
use Rattle.pk_phases.specs.declared.equations.Cell.{Cell}
use Rattle.pk_phases.specs.declared.equations.Cell.TheVariants.{Value}
use Rattle.pk_phases.specs.Equations.{behaviour_of}
use Rattle.pk_analysis.specs.declared.analysis.Options.{Options}
use Rattle.pk_analysis.specs.Flows.{stated, equations_of, reduced_cell}
use Rattle.pk_report.specs.Reports.{no_state, state_at}
use Rattle.pk_graph_report.specs.Reported.{verdict_at}
use Rattle.pk_solver.specs.Solved.{AreStates}
use Rattle.pk_sound.specs.Results.{IsAnalysed, cell_at}
use Rattle.pk_sound.specs.Families.{IsFamilyOf}
use Rattle.pk_sound.proofs.Holding.{results_are_families}
use Rattle.pk_show.specs.Laws.{IsVerdict}
use Rattle.pk_show_laws.specs.ReportRows as rows
use Rattle.pk_show_laws.specs.Tellable.{AreTellable, IsTellableLayout}
use Rattle.pk_show_laws.proofs.TellableLemmas.{number_is, facts_are_tellable}
use Rattle.pk_read_back_laws.specs.Laws.{VerdictsAreTellable}
use Rattle.pk_read_back_laws.proofs.LayoutLemmas.{layout_told, nothing_told}
use Rattle.pk_read_back_laws.proofs.VerdictLemmas.{IsSmallVerdict, verdict_small}

-- ---- verdicts

verdict_is : (v : Verdict) → IsSmallVerdict v → IsVerdict (rows.verdict_of v)
verdict_is Safe h = tt
verdict_is (Unknown lo hi) h = (number_is lo h.0, number_is hi h.1)
verdict_is Unreachable h = tt

pub verdicts_are_tellable : VerdictsAreTellable
verdicts_are_tellable l f o a h = verdict_is (verdict_of l f o) (verdict_small l f o a h)

-- ---- states

module _ (g : GraphOf) (o : Options) (most : ℕ) (p : PlanView) (states : List Stated) (made : IsGraph g) (few : o.oct < 2 ^ 31) (x : AreStates g o most p states) where
  analysed : IsAnalysed g o p x.order x.flow most x.outcome
  analysed = record { graph = made; oct = few; analysis = x.system.analysis; ordered = x.system.ordered; result = x.result }

  family : IsFamilyOf g x.flow x.outcome
  family = results_are_families g o p x.order x.flow most x.outcome analysed

  points_are : p.points ≡ length g.points
  points_are = x.system.ordered.is_plan.points ∙ length-map g.points (λ (q : PointOf). map (λ (e : EdgeOf). e.to) q.edges)

  cells_are : length x.outcome.cells ≡ p.elements
  cells_are =
      ap (λ (cs : List (Cell Stated)). length cs) x.result.cells_after
      ∙ length-map (range_with_len 0 p.elements) (cell_after (behaviour_of (equations_of x.flow)) (progress (behaviour_of (equations_of x.flow)) x.order (p.elements * most + 1)).runs)
      ∙ length-range_with_len 0 p.elements

  enough : length g.points ≤ length x.outcome.cells
  enough = omega (arith, points_are, cells_are, x.system.ordered.axioms.counted)

  cell_is : (v : ℕ) → v < length g.points → state_at states v ≡ reduced_cell x.flow (cell_at x.flow x.outcome v)
  cell_is v l =
      let d : Cell Stated = Value (stated x.flow.layout None) in
      ap (λ (ss : List Stated). slice_index_or ss v no_state) x.reduced
      ∙ get_or-map (reduced_cell x.flow) (take (length g.points) x.outcome.cells) v d no_state (omega (arith, l, length-take-le (length g.points) x.outcome.cells enough))
      ∙ ap (reduced_cell x.flow) (get_or-take (length g.points) x.outcome.cells v d l)

  -- each state has facts of the flow's layout
  layout_is : (v : ℕ) → v < length g.points → (state_at states v).layout ≡ x.flow.layout
  layout_is v l = ap (λ (t : Stated). t.layout) (cell_is v l)

  facts_are : (v : ℕ) → v < length g.points → AreFactsIf x.flow.layout (state_at states v).facts
  facts_are v l =
      subst (λ (t : Stated). AreFactsIf x.flow.layout t.facts) (sym (cell_is v l))
      (facts_stay.reductions x.flow.layout _ family.laid_out.layout (family.solved.facts v l))

  many : length states ≡ length g.points
  many = ap (λ (ss : List Stated). length ss) x.reduced ∙ length-map (take (length g.points) x.outcome.cells) (reduced_cell x.flow) ∙ length-take-le (length g.points) x.outcome.cells enough

  no_point : (v : ℕ) → length g.points ≤ v → state_at states v ≡ no_state
  no_point v l = get_or_past states v no_state (omega (arith, l, many))

  state_by : (v : ℕ) → (v < length g.points) ⊎ (length g.points ≤ v) → AreTellable (state_at states v).layout (state_at states v).facts
  state_by v (inl l) =
      subst (λ (y : Layout). AreTellable y (state_at states v).facts) (sym (layout_is v l)) (facts_are_tellable x.flow.layout (state_at states v).facts (facts_are v l))
  state_by v (inr l) = subst (λ (t : Stated). AreTellable t.layout t.facts) (sym (no_point v l)) tt

  pub states_told : (v : ℕ) → AreTellable (state_at states v).layout (state_at states v).facts
  states_told v = state_by v (cases_lt v (length g.points))

  layout_by : (v : ℕ) → (v < length g.points) ⊎ (length g.points ≤ v) → IsTellableLayout g (state_at states v).layout
  layout_by v (inl l) = subst (λ (y : Layout). IsTellableLayout g y) (sym (layout_is v l)) (layout_told g x.flow.layout family.laid_out.over)
  layout_by v (inr l) = subst (λ (t : Stated). IsTellableLayout g t.layout) (sym (no_point v l)) (nothing_told g)

  pub layouts_told : (v : ℕ) → IsTellableLayout g (state_at states v).layout
  layouts_told v = layout_by v (cases_lt v (length g.points))

  pub verdict_told : (a : AccessOf) → IsAccessOver g x.flow.layout a → IsVerdict (rows.verdict_of (verdict_at states a))
  verdict_told a h =
      subst (λ l. IsVerdict (rows.verdict_of (verdict_of l (state_at states a.point).facts a.operation))) (sym (layout_is a.point h.point))
      (verdicts_are_tellable x.flow.layout (state_at states a.point).facts a.operation (facts_are a.point h.point) h.typed)

  pub verdicts_told : All (λ (a : AccessOf). IsVerdict (rows.verdict_of (verdict_at states a))) (accesses_of g)
  verdicts_told k d l = verdict_told (slice_index_or (accesses_of g) k d) (accesses_over g x.flow.layout made family.laid_out.over k d l)

  pub elements_few : p.elements < 2 ^ 64
  elements_few =
      let axioms = x.system.ordered.axioms in
      let heads = map (λ (c : Component). c.head) p.components in
      let rising : length heads ≤ p.points = length-rising heads p.points axioms.heads (λ k l. heads_below k l) in
      omega (arith, axioms.counted, rising, length-map p.components (λ (c : Component). c.head), points_are, made.few)
    where
      heads_below : (k : ℕ) → k < length (map (λ (c : Component). c.head) p.components) → slice_index_or (map (λ (c : Component). c.head) p.components) k 0 < p.points
      heads_below k l = All-get_or (λ n. n < p.points) (map (λ (c : Component). c.head) p.components) k 0 l (All-map (λ n. n < p.points) (λ (c : Component). c.head) p.components x.system.ordered.axioms.points)

-- ---- accesses with their verdicts

pub each_with : {A B : Type 0} (Q : A × B → Type 0) (f : A → B) (xs : List A) → All (λ a. Q (a, f a)) xs → All Q (zip xs (map f xs))
each_with Q f [] h = All-nil Q
each_with Q f (x ∷ xs) h =
    All-cons Q (x, f x) (zip xs (map f xs)) (All-head (λ a. Q (a, f a)) x xs h) (each_with Q f xs (All-tail (λ a. Q (a, f a)) x xs h))

pub paired : {A B : Type 0} (f : A → B) (xs : List A) → length (zip xs (map f xs)) ≡ length xs
paired f [] = refl
paired f (x ∷ xs) = ap suc (paired f xs)
