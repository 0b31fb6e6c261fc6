-- An access that a run of the graph evaluates isn't told as unreachable; and what is told so no run computes.
use Rattle.std.specs.Prelude.{◌⊎◌, ℕ, List}
use Rattle.std.proofs.Common.{inl, inr, refl, ap, ◌∙◌}
use Rattle.pk_ctypes.specs.declared.faults.Fault.{Fault}
use Rattle.pk_ctypes.specs.declared.places.Pos.{Pos}
use Rattle.pk_graph.specs.declared.trees.Site.{Site}
use Rattle.pk_graph.specs.Accesses.{AccessOf, fault_of, OperationOf, Index, Divisor, Negation, Result, Shift, Assertion}
use Rattle.pk_graph.specs.Graphs.{GraphOf}
use Rattle.pk_graph.specs.Stores.{Stored}
use Rattle.pk_state.specs.Facts.{Stated}
use Rattle.pk_sound.specs.Runs.{Reaches}
use Rattle.pk_sound.specs.Runs as sound
use Rattle.pk_sound.specs.Verdicts.{IsEvaluatedIn}
use Rattle.pk_folded_texts.specs.Texts.{AccessesThemselvesAreEvaluated}
use Rattle.pk_meaning.specs.Programs.{Program}
use Rattle.pk_meaning.specs.Steps.{Config}
use Rattle.pk_meaning.specs.Runs.{Visit}
use Rattle.pk_visits.specs.GraphVisits.{GraphRuns, ends, steps}
use Rattle.pk_computed_laws.specs.Computed.{IsFolded, IsOnConstants, site}
use Rattle.pk_computed_laws.specs.Evaluated.{HasOperands, IsEvaluated, OperationsAreEvaluated}
use Rattle.pk_report_laws.specs.Runs.True.{AreTrueStates, verdict_by}
use Rattle.pk_report_laws.specs.Programs.TrueOfPrograms.{told_by}
use Rattle.pk_report_laws.specs.Programs.Reached.{IsReached, OperationsAreReached, UnreachableIsNotComputed}

reaches : {g : GraphOf} {p q : ℕ} {s t : Stored} {vs : List Visit} → GraphRuns g p s vs q t → Reaches g p s → Reaches g q t
reaches ends h = h
reaches (steps chosen there goes rest) h = reaches rest (sound.steps chosen h there goes)

evaluated_in : (o : OperationOf) (s : Stored) → HasOperands o s → IsEvaluatedIn o s
evaluated_in (Index n i) s h = h
evaluated_in (Divisor a b) s h = h
evaluated_in (Negation t e) s h = h
evaluated_in (Result op t a b) s h = h
evaluated_in (Shift op t a b) s h = h
evaluated_in (Assertion e) s h = h

module _ (p : Program) (g : GraphOf) (heads : List ℕ) (states : List Stated) (t : AreTrueStates g states) where
  is_reached : (place : Site) (fault : Fault) → IsEvaluated g place fault → IsReached (told_by p g heads states) place fault
  is_reached place fault x = record {
    access = x.access;
    listed = x.listed;
    at = x.at;
    kind = x.kind;
    reached = λ is. t.unreachable x.access x.store x.listed (reaches x.runs (sound.begins x.begins)) is (evaluated_in x.access.operation x.store x.operands);
  }

  pub reached : OperationsAreEvaluated p g → OperationsAreReached p (told_by p g heads states) (IsFolded p)
  reached all = λ choice first last visits at operation fault starts runs computes can. by first last at fault (all choice first last visits at operation fault starts runs computes can)
    where
      by : (first last : Config) (at : Pos) (fault : Fault) → IsEvaluated g (site last at) fault ⊎ IsFolded p first last → IsReached (told_by p g heads states) (site last at) fault ⊎ IsFolded p first last
      by first last at fault (inl x) = inl (is_reached (site last at) fault x)
      by first last at fault (inr x) = inr x

  -- what is folded is an operator on constants
  pub reached_or_constant : OperationsAreEvaluated p g → OperationsAreReached p (told_by p g heads states) (IsOnConstants p)
  reached_or_constant all = λ choice first last visits at operation fault starts runs computes can. by first last at fault (all choice first last visits at operation fault starts runs computes can)
    where
      by : (first last : Config) (at : Pos) (fault : Fault) → IsEvaluated g (site last at) fault ⊎ IsFolded p first last → IsReached (told_by p g heads states) (site last at) fault ⊎ IsOnConstants p first last
      by first last at fault (inl x) = inl (is_reached (site last at) fault x)
      by first last at fault (inr x) = inr x.operator

  -- ---- what is told unreachable

  pub none_computes : AccessesThemselvesAreEvaluated p g → UnreachableIsNotComputed p (told_by p g heads states)
  unfolding is_reached
  none_computes all = λ a has told choice first last visits at operation starts runs computes can is.
      let x = all choice first last visits at operation (fault_of a.operation) starts runs computes can a has is refl in
      (is_reached (site last at) (fault_of a.operation) x.0).reached (ap (λ (b : AccessOf). verdict_by states b.point b.operation) x.1 ∙ told)
