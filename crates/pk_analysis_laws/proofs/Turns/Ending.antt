-- The analysis of a graph ends.
use Rattle.std.specs.Prelude.{◌≡◌, ◌≤◌, ◌+◌, ℕ, ℤ, List, length}
use Rattle.std.proofs.Common.{◌∙◌, ap, sym, subst, refl}
use Rattle.pk_graph.specs.Graphs.{GraphOf, kinds_of}
use Rattle.pk_state.specs.Layouts.{Layout}
use Rattle.pk_transfer.specs.Slots.{slot_types}
use Rattle.pk_transfer.specs.Graphs.{layout_over}
use Rattle.pk_thresh.specs.Thresholds.{AreThresholds}
use Rattle.pk_thresh.specs.Chains.{chain_bound_of}
use Rattle.pk_packs.specs.Chains.{IsChainBound, entries_of}
use Rattle.pk_iterate.specs.BoundedTurns.{EndsWithin}
use Rattle.pk_phases.specs.Values.{IsRank}
use Rattle.pk_phases.specs.Equations.{behaviour_of}
use Rattle.pk_phases.specs.Turns.{turn_bound}
use Rattle.pk_phases.proofs.Planned_turns.{linear_order_ends}
use Rattle.pk_analysis.specs.Flows.{equations_of, state_operations}
use Rattle.pk_analysis.specs.Layouts.{packs_for}
use Rattle.pk_sound.proofs.Planning.{analyses_go_by_plan}
use Rattle.pk_analysis_laws.specs.Ranks.States.{IsStateOf, bound_of, rank_in}
use Rattle.pk_analysis_laws.proofs.Ranks.Ranked.{states_are_ranked, widening_chains_end}
use Rattle.pk_analysis_laws.specs.Turns.Ended.{AnalysesEnd, GraphChainsEnd, SmallBounds}
use Rattle.pk_analysis_laws.proofs.Sorting.{thresholds_same}
use Rattle.pk_analysis_laws.proofs.Turns.Cells.{KnowsState, analysis_keeps}

-- states have a rank
stated_ranks : (l : Layout) (thresholds : List ℤ) → IsRank (state_operations l thresholds) (λ s. IsStateOf l s.facts) (bound_of l thresholds) (λ s. rank_in l thresholds s.facts)
stated_ranks l thresholds = record {
  few = λ h f. states_are_ranked.few l thresholds h.facts f;
  stays = λ h n f g. states_are_ranked.stays l thresholds h.facts n.facts f g;
  falls = λ h n f g e. states_are_ranked.falls l thresholds h.facts n.facts f g e;
}

-- the bound of a layout of the graph and thresholds of it is that of the graph
bound_at : (g : GraphOf) (packs : List (List ℕ)) (chain : ℕ) (l : Layout) (ts : List ℤ) → IsChainBound g packs chain → l ≡ layout_over g packs → AreThresholds g ts → bound_of l ts ≡ chain
bound_at g packs chain l ts bound is are =
    ap (λ (y : Layout). bound_of y ts) is
    ∙ ap (λ (us : List ℤ). chain_bound_of (length (slot_types (kinds_of g))) (length us) 0 + entries_of packs) (thresholds_same g ts bound.0 are bound.1) ∙ sym bound.2

pub graph_chains_end : GraphChainsEnd
graph_chains_end g packs chain ts h ns bound are f c =
    subst (λ (k : ℕ). length ns ≤ k) (bound_at g packs chain (layout_over g packs) ts bound refl are) (widening_chains_end.ends (layout_over g packs) ts h ns f c)

pub small_bounds : SmallBounds
small_bounds = record { chain = refl; turns = refl }

pub analyses_end : AnalysesEnd
analyses_end g o p order a chain made few system bound =
    let plan = analyses_go_by_plan g o p order a made system.analysis system.ordered in
    let ends : EndsWithin (behaviour_of (equations_of a)) order (turn_bound (bound_of a.layout a.thresholds) a.narrow a.delay) =
    linear_order_ends (equations_of a) (KnowsState a.layout) (analysis_keeps g o p a made few system.analysis) p order (λ s. rank_in a.layout a.thresholds s.facts) (bound_of a.layout a.thresholds) system.ordered.is_linear plan.components plan.points
    (λ c of. stated_ranks a.layout a.thresholds) in
    let most = bound_at g (packs_for g p o) chain a.layout a.thresholds bound system.analysis.layout system.analysis.thresholds in
    subst (λ (k : ℕ). EndsWithin (behaviour_of (equations_of a)) order (turn_bound chain o.narrow k)) system.analysis.delay
    (subst (λ (k : ℕ). EndsWithin (behaviour_of (equations_of a)) order (turn_bound chain k a.delay)) system.analysis.narrow
    (subst (λ (k : ℕ). EndsWithin (behaviour_of (equations_of a)) order (turn_bound k a.narrow a.delay)) most ends))
