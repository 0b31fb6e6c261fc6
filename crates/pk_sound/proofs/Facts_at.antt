-- What the equations give, and so what each cell knows, are facts of the layout.
use Rattle.std.proofs.Common.{◌==◌, ℕ, Bool, true, false, if◌then◌else◌, Option, Some, None, List, [], ◌∷◌, map, ℤ, All}
use Rattle.std.proofs.lemmas.List.Elements.{All-nil, All-cons, All-head, All-tail}
use Rattle.pk_graph.specs.Graphs.{GraphOf, kinds_of}
use Rattle.pk_graph.specs.WellMade.{IsGraph}
use Rattle.pk_state.specs.Layouts.{Layout, IsLayout}
use Rattle.pk_state.specs.Facts.{Facts, Stated, AreFactsIf, joined}
use Rattle.pk_state.proofs.Held.{facts_stay}
use Rattle.pk_transfer.specs.Trees.{IsOver}
use Rattle.pk_transfer.specs.Transfers.{transferred}
use Rattle.pk_iterate.specs.Behaviour.{HoldEach}
use Rattle.pk_phases.specs.declared.phases.Phase.{Phase}
use Rattle.pk_phases.specs.declared.phases.Phase.TheVariants.{Delay, Up, Down, Last}
use Rattle.pk_phases.specs.declared.equations.Part.{Part}
use Rattle.pk_phases.specs.Values.{next_value}
use Rattle.pk_phases.specs.Equations.{KeepHeld}
use Rattle.pk_analysis.specs.declared.arrows.Arrow.{Arrow}
use Rattle.pk_analysis.specs.Arrows.{arrows_at, origins, instr_of}
use Rattle.pk_analysis.specs.Flows.{arrived, start_at, equation}
use Rattle.pk_analysis.specs.Starts.{start_facts}
use Rattle.pk_sound.proofs.Arrows_at.{IsArrowTo, arrows_to, arrow_over}
use Rattle.pk_sound.proofs.Begun.{start_stays}
use Rattle.pk_sound.proofs.Facts_stay.{transfers_stay}
use Rattle.pk_sound.proofs.Systems.{system_of}

-- a point's value is one whose facts are of the layout
abbrev pub KnowsFacts : Layout → ℕ → Stated → Type 0
KnowsFacts l e s = AreFactsIf l s.facts

facts_of_each : (l : Layout) (us : List ℕ) (vs : List Stated) → HoldEach (KnowsFacts l) us vs → All (AreFactsIf l) (map (λ (s : Stated). s.facts) vs)
facts_of_each l [] [] h = All-nil (AreFactsIf l)
facts_of_each l [] (v ∷ vs) h = absurd h
facts_of_each l (u ∷ us) [] h = absurd h
facts_of_each l (u ∷ us) (v ∷ vs) h = All-cons (AreFactsIf l) v.facts (map (λ (s : Stated). s.facts) vs) h.0 (facts_of_each l us vs h.1)

module _ (g : GraphOf) (l : Layout) (made : IsGraph g) (lay : IsLayout l) (over : IsOver (kinds_of g) l) where
  arrived_stays : (v : ℕ) (rows : List Arrow) (before : List (Option Facts)) (f : Option Facts) → All (IsArrowTo g v) rows → All (AreFactsIf l) before → AreFactsIf l f → AreFactsIf l (arrived g l rows before f)
  arrived_stays v [] before f h k a = a
  arrived_stays v (r ∷ rows) [] f h k a = a
  arrived_stays v (r ∷ rows) (b ∷ before) f h k a =
      arrived_stays v rows before (joined f (transferred l b (instr_of g r))) (All-tail (IsArrowTo g v) r rows h) (All-tail (AreFactsIf l) b before k)
      (facts_stay.joins l f (transferred l b (instr_of g r)) a
      (transfers_stay.transferred l b (instr_of g r) lay (All-head (AreFactsIf l) b before k) (arrow_over g l v r made over (All-head (IsArrowTo g v) r rows h))))

  pub start_at_stays : (v : ℕ) → AreFactsIf l (start_at g l v)
  start_at_stays v = by (v == 0)
    where
      by : (b : Bool) → AreFactsIf l (if b then Some (start_facts g l) else None)
      by true = start_stays g l made lay over
      by false = tt

  pub equation_stays : (v : ℕ) (before : List (Option Facts)) → All (AreFactsIf l) before → AreFactsIf l (equation g l v before)
  equation_stays v before k = arrived_stays v (arrows_at g v) before (start_at g l v) (arrows_to g v) k (start_at_stays v)

  pub system_keeps : (thresholds : List ℤ) (parts : List Part) (delay narrow : ℕ) → KeepHeld (system_of g l thresholds parts delay narrow) (KnowsFacts l)
  system_keeps thresholds parts delay narrow = record {
    bottom = λ e. tt;
    value = λ e vs h. equation_stays e (map (λ (s : Stated). s.facts) vs) (facts_of_each l (origins (arrows_at g e)) vs h);
    next = next;
  }
    where
      next : (e : ℕ) (phase : Phase) (h n : Stated) → KnowsFacts l e h → KnowsFacts l e n → KnowsFacts l e (next_value (system_of g l thresholds parts delay narrow).ops phase h n)
      next e (Delay k) h n i j = facts_stay.joins l h.facts n.facts i j
      next e Up h n i j = facts_stay.widenings l thresholds h.facts n.facts i j
      next e (Down k) h n i j = facts_stay.narrowings l h.facts n.facts i j
      next e Last h n i j = facts_stay.widenings l thresholds h.facts n.facts i j
