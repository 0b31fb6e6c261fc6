-- What is known at each element is a state in which classes are of their variables' types.
use Rattle.std.specs.Prelude.{◌<◌, ◌^◌, ◌==◌, ℕ, Bool, true, false, if◌then◌else◌, Option, Some, None, List, [], ◌∷◌, map, ℤ, All}
use Rattle.std.proofs.Common.{sym, subst}
use Rattle.std.proofs.lemmas.List.Elements.{All-nil, All-cons, All-head, All-tail}
use Rattle.pk_graph.specs.Graphs.{GraphOf, kinds_of}
use Rattle.pk_graph.specs.WellMade.{IsGraph}
use Rattle.pk_state.specs.Layouts.{Layout, IsLayout}
use Rattle.pk_state.specs.Facts.{Facts, Stated, AreFactsIf, joined}
use Rattle.pk_state.specs.Reduced.{reduced}
use Rattle.pk_state.proofs.Held.{facts_stay}
use Rattle.pk_transfer.specs.Trees.{IsOver}
use Rattle.pk_transfer.specs.Transfers.{applied, transferred}
use Rattle.pk_iterate.specs.Behaviour.{HoldEach}
use Rattle.pk_iterate.specs.Iteration.{cell_after, progress}
use Rattle.pk_iterate.proofs.Held.{held, holds_map}
use Rattle.pk_phases.specs.declared.phases.Phase.{Phase}
use Rattle.pk_phases.specs.declared.phases.Phase.TheVariants.{Delay, Up, Down, Last}
use Rattle.pk_phases.specs.declared.equations.Cell.{Cell}
use Rattle.pk_phases.specs.declared.equations.Part.{Part}
use Rattle.pk_phases.specs.Values.{next_value}
use Rattle.pk_phases.specs.Equations.{behaviour_of, may_hold_of, KeepHeld}
use Rattle.pk_phases.specs.EquationsHeld.{value_at, new_held, equations_hold}
use Rattle.pk_analysis.specs.declared.arrows.Arrow.{Arrow}
use Rattle.pk_analysis.specs.declared.analysis.Options.{Options}
use Rattle.pk_analysis.specs.Arrows.{arrows_at, origins, instr_of}
use Rattle.pk_analysis.specs.Flows.{Flow, equations_of, arrived, start_at, equation}
use Rattle.pk_analysis.specs.Made.{IsAnalysisOf}
use Rattle.pk_analysis.proofs.Layouting.{layouts_over}
use Rattle.pk_analysis.specs.Starts.{start_facts}
use Rattle.pk_plan.specs.Plans.{PlanView}
use Rattle.pk_sound.proofs.Arrows_at.{IsArrowTo, arrows_to, arrow_over}
use Rattle.pk_sound.proofs.Facts_stay.{transfers_stay}
use Rattle.pk_sound.proofs.Systems.{system_of}
use Rattle.pk_analysis_laws.specs.Ranks.States.{IsStateOf}
use Rattle.pk_analysis_laws.proofs.Ranks.Staying.{states_stay}
use Rattle.pk_analysis_laws.specs.Turns.Ended.{CellsAreStates}
use Rattle.pk_analysis_laws.proofs.Turns.BegunClasses.{start_state}

-- a point's value is a state of the layout
abbrev pub KnowsState : Layout → ℕ → Stated → Type 0
KnowsState l e s = IsStateOf l s.facts

facts_of_state : (l : Layout) (f : Option Facts) → IsStateOf l f → AreFactsIf l f
facts_of_state l None h = tt
facts_of_state l (Some f) h = h.facts

state_of_each : (l : Layout) (us : List ℕ) (vs : List Stated) → HoldEach (KnowsState l) us vs → All (IsStateOf l) (map (λ (s : Stated). s.facts) vs)
state_of_each l [] [] h = All-nil (IsStateOf l)
state_of_each l [] (v ∷ vs) h = absurd h
state_of_each l (u ∷ us) [] h = absurd h
state_of_each l (u ∷ us) (v ∷ vs) h = All-cons (IsStateOf l) v.facts (map (λ (s : Stated). s.facts) vs) h.0 (state_of_each l us vs h.1)

module _ (g : GraphOf) (l : Layout) (made : IsGraph g) (lay : IsLayout l) (over : IsOver (kinds_of g) l) where
  -- what is known after an edge is reduced
  along : (v : ℕ) (r : Arrow) (b : Option Facts) → IsArrowTo g v r → IsStateOf l b → IsStateOf l (transferred l b (instr_of g r))
  along v r b h k =
      states_stay.reductions l (applied l (reduced l b) (instr_of g r)) lay
      (transfers_stay.applied l (reduced l b) (instr_of g r) (facts_stay.reductions l b lay (facts_of_state l b k)) (arrow_over g l v r made over h))

  arrived_state : (v : ℕ) (rows : List Arrow) (before : List (Option Facts)) (f : Option Facts) → All (IsArrowTo g v) rows → All (IsStateOf l) before → IsStateOf l f → IsStateOf l (arrived g l rows before f)
  arrived_state v [] before f h k a = a
  arrived_state v (r ∷ rows) [] f h k a = a
  arrived_state v (r ∷ rows) (b ∷ before) f h k a =
      arrived_state v rows before (joined f (transferred l b (instr_of g r))) (All-tail (IsArrowTo g v) r rows h) (All-tail (IsStateOf l) b before k)
      (states_stay.joins l f (transferred l b (instr_of g r)) a (along v r b (All-head (IsArrowTo g v) r rows h) (All-head (IsStateOf l) b before k)))

  start_at_state : (v : ℕ) → IsStateOf l (start_at g l v)
  start_at_state v = by (v == 0)
    where
      by : (b : Bool) → IsStateOf l (if b then Some (start_facts g l) else None)
      by true = start_state g l made lay over
      by false = tt

  equation_state : (v : ℕ) (before : List (Option Facts)) → All (IsStateOf l) before → IsStateOf l (equation g l v before)
  equation_state v before k = arrived_state v (arrows_at g v) before (start_at g l v) (arrows_to g v) k (start_at_state v)

  system_keeps : (thresholds : List ℤ) (parts : List Part) (delay narrow : ℕ) → KeepHeld (system_of g l thresholds parts delay narrow) (KnowsState l)
  system_keeps thresholds parts delay narrow = record {
    bottom = λ e. tt;
    value = λ e vs h. equation_state e (map (λ (s : Stated). s.facts) vs) (state_of_each l (origins (arrows_at g e)) vs h);
    next = next;
  }
    where
      next : (e : ℕ) (phase : Phase) (h n : Stated) → KnowsState l e h → KnowsState l e n → KnowsState l e (next_value (system_of g l thresholds parts delay narrow).ops phase h n)
      next e (Delay k) h n i j = states_stay.joins l h.facts n.facts i j
      next e Up h n i j = states_stay.widenings l thresholds h.facts n.facts i j
      next e (Down k) h n i j = states_stay.narrowings l h.facts n.facts i j
      next e Last h n i j = states_stay.widenings l thresholds h.facts n.facts i j

-- so the equations of an analysis keep to such states
pub analysis_keeps : (g : GraphOf) (o : Options) (p : PlanView) (a : Flow) → IsGraph g → o.oct < 2 ^ 31 → IsAnalysisOf g p o a → KeepHeld (equations_of a) (KnowsState a.layout)
analysis_keeps g o p a made few is =
    let lay : IsLayout a.layout = subst IsLayout (sym is.layout) (layouts_over.layouts g p o few) in
    let over : IsOver (kinds_of g) a.layout = subst (IsOver (kinds_of g)) (sym is.layout) (layouts_over.over g p o) in
    subst (λ (k : GraphOf). KeepHeld (system_of k a.layout a.thresholds a.parts a.delay a.narrow) (KnowsState a.layout)) (sym is.graph) (system_keeps g a.layout made lay over a.thresholds a.parts a.delay a.narrow)

pub cells_are_states : CellsAreStates
cells_are_states g o p order a made few is n e =
    let keeps = analysis_keeps g o p a made few is in
    let all = held (behaviour_of (equations_of a)) (may_hold_of (equations_of a) (KnowsState a.layout)) (equations_hold (equations_of a) (KnowsState a.layout) keeps) order n in
    let cells : ℕ → Cell Stated = cell_after (behaviour_of (equations_of a)) (progress (behaviour_of (equations_of a)) order n).runs in
    record {
      known = value_at (equations_of a) (KnowsState a.layout) keeps e ((equations_of a).part e) (cells e) (all e);
      given = new_held (equations_of a) (KnowsState a.layout) keeps e (map cells ((equations_of a).sources e)) (holds_map (may_hold_of (equations_of a) (KnowsState a.layout)) cells ((equations_of a).sources e) all);
    }
