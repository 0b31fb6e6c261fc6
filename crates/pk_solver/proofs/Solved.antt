-- The analysis of a graph by the plan of its digraph, by its order and by workers.
use Rattle.std.specs.Prelude.{◌≡◌, ℕ, ◌+◌, ◌*◌, ◌<◌, ◌≤◌, ◌^◌, true, List, length, map}
use Rattle.std.proofs.Common.{ap, arith, refl, subst, sym, ◌∙◌}
use Rattle.std.proofs.lemmas.List.{length-map}
use Rattle.pk_graph.specs.Graphs.{EdgeOf, PointOf, GraphOf, kinds_of}
use Rattle.pk_transfer.specs.Slots.{slot_types}
use Rattle.pk_graph.specs.Shown.{graph_view}
use Rattle.pk_graph.specs.WellMade.{IsGraph}
use Rattle.pk_state.specs.Facts.{Stated}
use Rattle.pk_state.specs.Layouts.{Layout}
use Rattle.pk_thresh.specs.Chains.{chain_bound_of}
use Rattle.pk_packs.specs.Chains.{entries_of}
use Rattle.pk_packs.specs.Packs.{pack_count, pack_limit}
use Rattle.pk_plan.specs.Order.{Level}
use Rattle.pk_plan.specs.Linear.{IsLinear}
use Rattle.pk_plan.specs.Plans.{PlanView}
use Rattle.pk_plan.specs.Shape.{shape_of}
use Rattle.pk_order.specs.Ordered.{IsOrdered, IsPlanned}
use Rattle.pk_order_laws.specs.Orders.{EveryPlanHasALinearOrder}
use Rattle.pk_iterate.specs.Answer.{Over, IsResult}
use Rattle.pk_iterate.specs.Ending.{Ends}
use Rattle.pk_iterate.specs.Outcome.{Outcome}
use Rattle.pk_iterate.specs.declared.failure.Solve.TheVariants.{RunLimit}
use Rattle.pk_phases.specs.declared.equations.Cell.{Cell}
use Rattle.pk_phases.specs.Equations.{behaviour_of}
use Rattle.pk_analysis.specs.declared.analysis.Options.{Options}
use Rattle.pk_analysis.specs.Digraphs.{digraph_of}
use Rattle.pk_analysis.specs.Flows.{Flow, equations_of}
use Rattle.pk_analysis.specs.Layouts.{layout_for, packs_for, HasFewPacks}
use Rattle.pk_analysis.specs.Made.{IsAnalysisOf}
use Rattle.pk_core.specs.Orders.{IsOrderOf}
use Rattle.pk_words.specs.Reads.{HasEnd}
use Rattle.pk_analysis_fits.specs.Orders.{LinearOrdersAreOrders}
use Rattle.pk_analysis_laws.specs.Systems.{HasManyPacks, IsOver, IsSystem}
use Rattle.pk_analysis_laws.specs.Turns.Ended.{AnalysesEnd}
use Rattle.pk_workers.specs.Answers.{IsResultOf, IsExceeded}
use Rattle.pk_solver.specs.Bounds.{most_elements}
use Rattle.pk_solver.specs.Prepared.{IsPrepared}
use Rattle.pk_solver.specs.Solved.{IsOutcomeOf}

-- the plan of a digraph has a linear order
pub order_of : EveryPlanHasALinearOrder → (g d : List (List ℕ)) (p : PlanView) → d ≡ g → IsPlanned d p → (order : Level) × IsOrdered g p order
order_of law g d p is x =
    let linear = law p x.axioms in
    subst (λ (q : List (List ℕ)). (order : Level) × IsOrdered q p order) is
    (linear.0, record { nest = x.nest; is_nest = x.is_nest; axioms = x.axioms; is_plan = x.is_plan; is_linear = linear.1 })

-- it has so many elements
pub few_so : (g : GraphOf) (d : List (List ℕ)) (n m : ℕ) → d ≡ digraph_of g → n ≤ 2 * length d + 1 → length g.points ≤ m → n ≤ 2 * m + 1
few_so g d n m is few enough =
    let points = ap (λ (q : List (List ℕ)). length q) is ∙ length-map g.points (λ (p : PointOf). map (λ (e : EdgeOf). e.to) p.edges) in
    omega (arith, few, points, enough)

module _ (g : GraphOf) (p : PlanView) (order : Level) (ordered : IsOrdered (digraph_of g) p order) where
  pub plan_points : p.points ≡ length g.points
  plan_points = ordered.is_plan.points ∙ length-map g.points (λ (q : PointOf). map (λ (e : EdgeOf). e.to) q.edges)

  pub enough_elements : length g.points ≤ p.elements
  enough_elements = omega (arith, plan_points, ordered.axioms.counted)

-- its plan, and the layout by it
pub prepared_so : (g : GraphOf) (o : Options) (p : PlanView) (l : Layout) → (order : Level) × IsOrdered (digraph_of g) p order → p.elements ≤ most_elements → l ≡ layout_for g p o → HasFewPacks p o → IsPrepared g o p l
prepared_so g o p l x elements layout few = record { order = x.0; ordered = x.1; elements = elements; layout = layout; few = few }

pub many_so : (g : GraphOf) (o : Options) (p : PlanView) → (order : Level) × IsOrdered (digraph_of g) p order → (o.packs ≡ true) × (pack_limit < pack_count p) → HasManyPacks g o
many_so g o p x many = record { plan = p; order = x.0; ordered = x.1; asked = many.0; many = many.1 }

-- the equations of a graph are those of the graph that they hold
pub own_system : (g : GraphOf) (o : Options) (p : PlanView) (a : Flow) → (order : Level) × IsOrdered (digraph_of g) p order → IsAnalysisOf g p o a
    → (order : Level) × IsSystem (graph_view a.graph) o p order a
own_system g o p a x is = (x.0, subst (λ (h : GraphOf). IsSystem h o p x.0 a) (sym is.graph) (record { ordered = x.1; analysis = is }))

-- ---- on one thread

-- a linear order of the plan is its order
along : (g : GraphOf) (o : Options) (p : PlanView) (order other : Level) (a : Flow) → IsSystem g o p order a → IsLinear p other → IsSystem g o p other a
along g o p order other a x linear = record {
  ordered = record { nest = x.ordered.nest; is_nest = x.ordered.is_nest; axioms = x.ordered.axioms; is_plan = x.ordered.is_plan; is_linear = linear };
  analysis = x.analysis;
}

module _ (o : Options) (p : PlanView) (a : Flow) (order other : Level) (system : IsSystem (graph_view a.graph) o p order a) (linear : IsLinear p other) where
  -- an order has as many elements as its plan
  pub outcome_along : (n most : ℕ) (it : Outcome (Cell Stated)) → n ≡ p.elements → IsResult (behaviour_of (equations_of a)) other n most it → IsOutcomeOf o p a most it
  outcome_along n most it same x = record {
    order = other;
    system = along (graph_view a.graph) o p order other a system linear;
    result = subst (λ (k : ℕ). IsResult (behaviour_of (equations_of a)) other k most it) same x;
  }

  pub over_along : (n most : ℕ) → n ≡ p.elements → Over (behaviour_of (equations_of a)) other n most → IsOver (graph_view a.graph) o most
  over_along n most same x = record {
    plan = p;
    order = other;
    flow = a;
    system = along (graph_view a.graph) o p order other a system linear;
    over = subst (λ (k : ℕ). Over (behaviour_of (equations_of a)) other k most) same x;
  }

-- ---- by workers

module _ (o : Options) (p : PlanView) (a : Flow) (order : Level) (system : IsSystem (graph_view a.graph) o p order a)
    (end : AnalysesEnd) (orders : LinearOrdersAreOrders) (made : IsGraph (graph_view a.graph)) (few : o.oct < 2 ^ 31) where
  ends : Ends (behaviour_of (equations_of a)) order
  ends =
      let g = graph_view a.graph in
      let chain : ℕ = chain_bound_of (length (slot_types (kinds_of g))) (length a.thresholds) 0 + entries_of (packs_for g p o) in
      (end g o p order a chain made few system (a.thresholds, system.analysis.thresholds, refl)).ends

  is_order : IsOrderOf (shape_of p) order
  is_order = orders p order system.ordered.axioms system.ordered.is_linear

  pub has_end : HasEnd (behaviour_of (equations_of a)) p
  has_end = (order, ends, is_order)

  pub outcome_of : (most : ℕ) (it : Outcome (Cell Stated)) → IsResultOf (behaviour_of (equations_of a)) p most it → IsOutcomeOf o p a most it
  outcome_of most it found = record { order = order; system = system; result = found order ends is_order }

  pub exceeded_over : (most element run : ℕ) → IsExceeded (behaviour_of (equations_of a)) p most (RunLimit element run) → IsOver (graph_view a.graph) o most
  exceeded_over most element run x = record { plan = p; order = order; flow = a; system = system; over = (x.2 order ends is_order).1 }
