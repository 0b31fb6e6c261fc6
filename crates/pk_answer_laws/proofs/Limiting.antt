-- Under a limit that is enough no element is run too often.
use Rattle.std.proofs.Common.{◌≡◌, ◌+◌, ◌<◌, ◌≤◌, ◌^◌, inl, inr, ℕ, ◌∷◌, [], if◌then◌else◌, List, length, refl, ap, subst, arith}
use Rattle.pk_graph.specs.Graphs.{GraphOf, kinds_of}
use Rattle.pk_transfer.specs.Slots.{slot_types}
use Rattle.pk_graph.specs.WellMade.{IsGraph}
use Rattle.pk_graph.specs.OctagonVariables.{octagon_variables_of}
use Rattle.pk_thresh.specs.Chains.{chain_bound_of}
use Rattle.pk_plan.specs.Order.{Level}
use Rattle.pk_plan.specs.Plans.{PlanView}
use Rattle.pk_order.specs.Ordered.{IsOrdered, OrderIsDetermined}
use Rattle.pk_packs.specs.Chains.{IsChainBound, entries_of}
use Rattle.pk_order_laws.specs.Digraphs.{EveryDigraphHasAnOrder}
use Rattle.pk_phases.specs.Turns.{turn_bound}
use Rattle.pk_analysis.specs.declared.analysis.Options.{Options}
use Rattle.pk_analysis.specs.Digraphs.{digraph_of}
use Rattle.pk_analysis.specs.Layouts.{packs_for}
use Rattle.pk_analysis_laws.specs.Systems.{IsOver}
use Rattle.pk_analysis_laws.specs.Turns.Counted.{LimitsAreLow, depth_of}
use Rattle.pk_solver.proofs.Packed.{packs_same}
use Rattle.pk_text_graph.specs.Graphs.{GraphsAreWellMade}
use Rattle.pk_answer_laws.specs.Analyses.{EveryGraphIsReported, EveryGraphIsSummed}
use Rattle.pk_answer_laws.specs.Limits.{IsEnough, EnoughIsReported, EnoughIsSummed, EveryGraphHasLimits, CutOffsAreLow}
use Rattle.pk_answer_laws.proofs.Stops.{thresholds_of, are_thresholds}
use Rattle.pk_answer_laws.proofs.Analysing.{order_of}

not_over : LimitsAreLow → (g : GraphOf) (o : Options) (most : ℕ) → IsGraph g → o.oct < 2 ^ 31 → IsEnough g o most → IsOver g o most → ⊥
not_over low g o most made few enough over =
    let less = low g o most enough.chain made few over (enough.bound over.plan over.order over.system.ordered) in
    let deep = enough.deep over.plan over.order over.system.ordered in
    omega (arith, less, deep)

pub enough_reported : EveryGraphIsReported → LimitsAreLow → EnoughIsReported
enough_reported law low g o most all made room few enough = elim (law g o most all made room) [
  | inl x ↦ inl x
  | inr (inl many) ↦ inr many
  | inr (inr over) ↦ absurd (not_over low g o most made few enough over)
]

pub enough_summed : EveryGraphIsSummed → LimitsAreLow → EnoughIsSummed
enough_summed law low g o most seed size text_length made room few enough = elim (law g o most seed size text_length made room) [
  | inl x ↦ inl x
  | inr (inl many) ↦ inr many
  | inr (inr over) ↦ absurd (not_over low g o most made few enough over)
]

-- the packs are those of every plan of the graph
packs_are : (g : GraphOf) (o : Options) (p q : PlanView) (one other : Level) → IsOrdered (digraph_of g) p one → IsOrdered (digraph_of g) q other → packs_for g p o ≡ packs_for g q o
packs_are g o p q one other x y =
    ap (λ (packs : List (List ℕ)). if o.packs then packs else octagon_variables_of g o.oct ∷ []) (packs_same g p q one other x y o.oct)

pub limits : EveryDigraphHasAnOrder → OrderIsDetermined → EveryGraphHasLimits
limits law one g o made =
    let x = order_of law g made in
    let chain : ℕ = chain_bound_of (length (slot_types (kinds_of g))) (length (thresholds_of g)) 0 + entries_of (packs_for g x.0 o) in (
      turn_bound chain o.narrow o.delay ^ depth_of x.1,
      λ most h. record {
        chain = chain;
        bound = λ p order is. subst (λ (packs : List (List ℕ)). IsChainBound g packs chain) (packs_are g o x.0 p x.1 order x.2 is) (thresholds_of g, are_thresholds g, refl);
        deep = λ p order is. let same = one.order (digraph_of g) x.0 p x.1 order x.2 is in subst (λ (l : Level). turn_bound chain o.narrow o.delay ^ depth_of l ≤ most) same h;
      },
    )

pub cut_offs : LimitsAreLow → GraphsAreWellMade → CutOffsAreLow
cut_offs low made text entry o most few cut enough = not_over low cut.graph o most (made text entry cut.graph cut.has_graph) few enough cut.over
