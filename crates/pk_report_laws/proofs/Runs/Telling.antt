-- From the states of a report to the result of the analysis.
use Rattle.std.specs.Prelude.{◌≡◌, ◌⊎◌, ℕ, ℤ, ◌+◌, ◌*◌, ◌<◌, ◌≤◌, ◌^◌, List, length, map, take, slice_index_or, Contains, None}
use Rattle.std.specs.List.{range_with_len}
use Rattle.std.proofs.Common.{arith, sym, ap, subst, ◌∙◌, inl, inr}
use Rattle.std.proofs.lemmas.List.{length-map, length-take-le, get_or-map, get_or-take}
use Rattle.std.proofs.lemmas.List.FromFn.{length-range_with_len}
use Rattle.std.proofs.lemmas.List.Elements.{All-get_or, All-contains}
use Rattle.pk_graph.specs.declared.verdicts.Verdict.TheVariants.{Safe, Unknown, Unreachable}
use Rattle.pk_graph.specs.Accesses.{AccessOf, accesses_of}
use Rattle.pk_graph.specs.Graphs.{EdgeOf, PointOf, GraphOf, no_point, point_at, kinds_of}
use Rattle.pk_graph.specs.Steps.{Numbers, Failure, Faulted, effect}
use Rattle.pk_graph.specs.Stores.{Stored, storing, IsStore}
use Rattle.pk_graph.specs.WellMade.{IsGraph, IsPointOf, IsEdgeOf}
use Rattle.pk_state.specs.Facts.{Stated}
use Rattle.pk_plan.specs.Plans.{PlanView}
use Rattle.pk_verdict.specs.Verdicts.{verdict_of}
use Rattle.pk_iterate.specs.Iteration.{cell_after, progress}
use Rattle.pk_phases.specs.declared.equations.Cell.{Cell}
use Rattle.pk_phases.specs.declared.equations.Cell.TheVariants.{Value}
use Rattle.pk_phases.specs.Equations.{behaviour_of}
use Rattle.pk_analysis.specs.declared.analysis.Options.{Options}
use Rattle.pk_analysis.specs.Flows.{stated, equations_of, reduced_cell}
use Rattle.pk_report.specs.Reports.{no_state, state_at}
use Rattle.pk_graph_report.specs.Reported.{verdict_at}
use Rattle.pk_solver.specs.Solved.{AreStates}
use Rattle.pk_sound.specs.Runs.{Reaches, begins, steps}
use Rattle.pk_sound.specs.Results.{IsAnalysed, cell_at}
use Rattle.pk_sound.specs.Held.{Agrees, ResultHoldsRuns}
use Rattle.pk_sound.specs.Verdicts.{FaultsIn, IsEvaluatedIn, VerdictsHold}
use Rattle.pk_sound.specs.Bounds.{IsDecidedWithin, BoundsHold}
use Rattle.pk_sound.specs.Faults.{IsHidden, IsFailing, IsUnknownAt, FaultsAreUnknown}
use Rattle.pk_sound.proofs.Accesses.{points_are_there}
use Rattle.pk_report_laws.specs.Runs.True.{IsUnknown, verdict_by, ReportsAreTrue}

-- a run comes to points of the graph alone
pub there : (g : GraphOf) (v : ℕ) (s : Stored) → IsGraph g → Reaches g v s → v < length g.points
there g v s made (begins h) = made.entry
there g v t made (steps {p = p} {s = s} {e = e} chosen h has goes) =
    let point = All-get_or (IsPointOf g) g.points p no_point (there g p s made h) made.points in
    (All-contains (IsEdgeOf g) (point_at g p).edges e point.edges has).leads_to_a_point

module _ (g : GraphOf) (o : Options) (most : ℕ) (p : PlanView) (states : List Stated) (made : IsGraph g) (few : o.oct < 2 ^ 31) (x : AreStates g o most p states) where
  analysed : IsAnalysed g o p x.order x.flow most x.outcome
  analysed = record { graph = made; oct = few; analysis = x.system.analysis; ordered = x.system.ordered; result = x.result }

  cells_many : length x.outcome.cells ≡ p.elements
  cells_many =
      ap (λ (cs : List (Cell Stated)). length cs) x.result.cells_after
      ∙ length-map (range_with_len 0 p.elements) (cell_after (behaviour_of (equations_of x.flow)) (progress (behaviour_of (equations_of x.flow)) x.order (p.elements * most + 1)).runs)
      ∙ length-range_with_len 0 p.elements

  enough : length g.points ≤ length x.outcome.cells
  enough =
      let points = x.system.ordered.is_plan.points ∙ length-map g.points (λ (q : PointOf). map (λ (e : EdgeOf). e.to) q.edges) in
      omega (arith, points, cells_many, x.system.ordered.axioms.counted)

  -- the state of a point is its cell, reduced
  state_is : (v : ℕ) → v < length g.points → state_at states v ≡ reduced_cell x.flow (cell_at x.flow x.outcome v)
  state_is v l =
      let d : Cell Stated = Value (stated x.flow.layout None) in
      ap (λ (ss : List Stated). slice_index_or ss v no_state) x.reduced
      ∙ get_or-map (reduced_cell x.flow) (take (length g.points) x.outcome.cells) v d no_state (omega (arith, l, length-take-le (length g.points) x.outcome.cells enough))
      ∙ ap (reduced_cell x.flow) (get_or-take (length g.points) x.outcome.cells v d l)

  verdict_is : (a : AccessOf) → a.point < length g.points → verdict_at states a ≡ verdict_of (reduced_cell x.flow (cell_at x.flow x.outcome a.point)).layout (reduced_cell x.flow (cell_at x.flow x.outcome a.point)).facts a.operation
  verdict_is a l = ap (λ (t : Stated). verdict_of t.layout t.facts a.operation) (state_is a.point l)

  stores : ResultHoldsRuns → (v : ℕ) (s : Stored) → Reaches g v s → IsStore (kinds_of g) s
  stores law v s h = (law g o p x.order x.flow most x.outcome analysed v s h).store

  holds : ResultHoldsRuns → (v : ℕ) (s : Stored) → Reaches g v s → Agrees (state_at states v).layout (state_at states v).facts s
  holds law v s h =
      subst (λ (t : Stated). Agrees t.layout t.facts s) (sym (state_is v (there g v s made h)))
      (law g o p x.order x.flow most x.outcome analysed v s h).reduced

  safe : VerdictsHold → (a : AccessOf) (s : Stored) → Contains (accesses_of g) a → Reaches g a.point s → verdict_at states a ≡ Safe → FaultsIn a.operation s → ⊥
  safe law a s has h is = (law g o p x.order x.flow most x.outcome analysed a s has h).safe (sym (verdict_is a (there g a.point s made h)) ∙ is)

  unreachable : VerdictsHold → (a : AccessOf) (s : Stored) → Contains (accesses_of g) a → Reaches g a.point s → verdict_at states a ≡ Unreachable → IsEvaluatedIn a.operation s → ⊥
  unreachable law a s has h is = (law g o p x.order x.flow most x.outcome analysed a s has h).unreachable (sym (verdict_is a (there g a.point s made h)) ∙ is)

  bounded : BoundsHold → (a : AccessOf) (lo hi : ℤ) → Contains (accesses_of g) a → verdict_at states a ≡ Unknown lo hi → IsDecidedWithin g a.point a.operation lo hi
  bounded law a lo hi has is =
      let at = All-contains (λ (b : AccessOf). b.point < length g.points) (accesses_of g) a (points_are_there g made) has in
      law g o p x.order x.flow most x.outcome analysed a lo hi has (sym (verdict_is a at) ∙ is)

  unknown_is : (v : ℕ) (a : AccessOf) → v < length g.points → IsUnknownAt x.flow x.outcome v a → IsUnknown (verdict_by states) v a.operation
  unknown_is v a l (lo, hi, is) = (lo, hi, ap (λ (t : Stated). verdict_of t.layout t.facts a.operation) (state_is v l) ∙ is)

  faults : FaultsAreUnknown → (v : ℕ) (s : Stored) (e : EdgeOf) (chosen : Numbers) (w : Failure) → Reaches g v s → Contains (point_at g v).edges e → effect storing chosen e.instr s ≡ Faulted w
      → ((a : AccessOf) × IsFailing v e.instr w s a × IsUnknown (verdict_by states) v a.operation) ⊎ IsHidden e.instr w.site s
  faults law v s e chosen w h has fails = by (law g o p x.order x.flow most x.outcome analysed v s e chosen w h has fails)
    where
      by : ((a : AccessOf) × IsFailing v e.instr w s a × IsUnknownAt x.flow x.outcome v a) ⊎ IsHidden e.instr w.site s → ((a : AccessOf) × IsFailing v e.instr w s a × IsUnknown (verdict_by states) v a.operation) ⊎ IsHidden e.instr w.site s
      by (inl (a, f, u)) = inl (a, f, unknown_is v a (there g v s made h) u)
      by (inr hidden) = inr hidden

pub reports_true : ResultHoldsRuns → VerdictsHold → BoundsHold → FaultsAreUnknown → ReportsAreTrue
reports_true runs verdicts bounds unknowns g o most p states made few x = record {
  stores = stores g o most p states made few x runs;
  holds = holds g o most p states made few x runs;
  safe = safe g o most p states made few x verdicts;
  unreachable = unreachable g o most p states made few x verdicts;
  bounds = bounded g o most p states made few x bounds;
  faults = faults g o most p states made few x unknowns;
}
