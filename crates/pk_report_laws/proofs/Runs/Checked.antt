-- From cells that are checked to what is true of each run of the graph.
use Rattle.std.specs.Prelude.{◌≡◌, ◌⊎◌, ℕ, ℤ, ◌<◌, List, length, Contains, None}
use Rattle.std.proofs.Common.{arith, sym, ap, subst, ◌∙◌, inl, inr}
use Rattle.std.proofs.lemmas.List.{get_or-map}
use Rattle.std.proofs.lemmas.List.Elements.{All-contains}
use Rattle.pk_graph.specs.declared.verdicts.Verdict.TheVariants.{Safe, Unknown, Unreachable}
use Rattle.pk_graph.specs.Accesses.{AccessOf, accesses_of}
use Rattle.pk_graph.specs.Graphs.{EdgeOf, GraphOf, point_at}
use Rattle.pk_graph.specs.Steps.{Numbers, Failure, Faulted, effect}
use Rattle.pk_graph.specs.Stores.{Stored, storing}
use Rattle.pk_graph.specs.WellMade.{IsGraph}
use Rattle.pk_state.specs.Layouts.{Layout}
use Rattle.pk_state.specs.Facts.{Stated}
use Rattle.pk_state.specs.Reduced.{reduced}
use Rattle.pk_transfer.specs.Graphs.{layout_of}
use Rattle.pk_verdict.specs.Verdicts.{verdict_of}
use Rattle.pk_phases.specs.declared.equations.Cell.{Cell}
use Rattle.pk_phases.specs.declared.equations.Cell.TheVariants.{Value}
use Rattle.pk_analysis.specs.Flows.{reduced_over, stated}
use Rattle.pk_report.specs.Reports.{no_state, state_at}
use Rattle.pk_graph_report.specs.Reported.{verdict_at}
use Rattle.pk_sound.specs.Runs.{Reaches}
use Rattle.pk_sound.specs.Held.{Agrees}
use Rattle.pk_sound.specs.Verdicts.{FaultsIn, IsEvaluatedIn}
use Rattle.pk_sound.specs.Bounds.{IsDecidedWithin}
use Rattle.pk_sound.specs.Faults.{IsHidden, IsFailing}
use Rattle.pk_sound.specs.FamilyRuns.{IsUnknownBy}
use Rattle.pk_sound.proofs.Accesses.{points_are_there}
use Rattle.pk_cert_check.specs.Checked.{known_by, HoldStates}
use Rattle.pk_cert_laws.specs.Runs.{CheckedCellsHoldRuns, HoldRuns}
use Rattle.pk_cert_report.specs.Checked.{reduced_states}
use Rattle.pk_report_laws.specs.Runs.True.{CheckedCellsAreTrue, IsUnknown, verdict_by}
use Rattle.pk_report_laws.proofs.Runs.Telling.{there}

module _ (g : GraphOf) (l : Layout) (cells : List (Cell Stated)) (made : IsGraph g) (hold : HoldStates l (length g.points) cells) (h : HoldRuns g l (known_by l cells)) where
  -- the state of a point is its cell, reduced
  state_is : (v : ℕ) → v < length g.points → state_at (reduced_states l cells) v ≡ stated l (reduced l (known_by l cells v))
  state_is v below = get_or-map (reduced_over l) cells v (Value (stated l None)) no_state (omega (arith, below, hold.enough))

  verdict_is : (a : AccessOf) → a.point < length g.points → verdict_at (reduced_states l cells) a ≡ verdict_of l (reduced l (known_by l cells a.point)) a.operation
  verdict_is a below = ap (λ (t : Stated). verdict_of t.layout t.facts a.operation) (state_is a.point below)

  holds : (v : ℕ) (s : Stored) → Reaches g v s → Agrees (state_at (reduced_states l cells) v).layout (state_at (reduced_states l cells) v).facts s
  holds v s r = subst (λ (t : Stated). Agrees t.layout t.facts s) (sym (state_is v (there g v s made r))) (h.stores v s r).reduced_known

  safe : (a : AccessOf) (s : Stored) → Contains (accesses_of g) a → Reaches g a.point s → verdict_at (reduced_states l cells) a ≡ Safe → FaultsIn a.operation s → ⊥
  safe a s has r is = (h.judged a s has r).safe (sym (verdict_is a (there g a.point s made r)) ∙ is)

  unreachable : (a : AccessOf) (s : Stored) → Contains (accesses_of g) a → Reaches g a.point s → verdict_at (reduced_states l cells) a ≡ Unreachable → IsEvaluatedIn a.operation s → ⊥
  unreachable a s has r is = (h.judged a s has r).unreachable (sym (verdict_is a (there g a.point s made r)) ∙ is)

  bounded : (a : AccessOf) (lo hi : ℤ) → Contains (accesses_of g) a → verdict_at (reduced_states l cells) a ≡ Unknown lo hi → IsDecidedWithin g a.point a.operation lo hi
  bounded a lo hi has is =
      let at = All-contains (λ (b : AccessOf). b.point < length g.points) (accesses_of g) a (points_are_there g made) has in
      h.bounds a lo hi has (sym (verdict_is a at) ∙ is)

  faults : (v : ℕ) (s : Stored) (e : EdgeOf) (chosen : Numbers) (w : Failure) → Reaches g v s → Contains (point_at g v).edges e → effect storing chosen e.instr s ≡ Faulted w
      → ((a : AccessOf) × IsFailing v e.instr w s a × IsUnknown (verdict_by (reduced_states l cells)) v a.operation) ⊎ IsHidden e.instr w.site s
  faults v s e chosen w r has fails = by (h.faults v s e chosen w r has fails)
    where
      by : ((a : AccessOf) × IsFailing v e.instr w s a × IsUnknownBy l (known_by l cells v) a) ⊎ IsHidden e.instr w.site s → ((a : AccessOf) × IsFailing v e.instr w s a × IsUnknown (verdict_by (reduced_states l cells)) v a.operation) ⊎ IsHidden e.instr w.site s
      by (inl (a, f, (lo, hi, is))) = inl (a, f, (lo, hi, ap (λ (t : Stated). verdict_of t.layout t.facts a.operation) (state_is v (there g v s made r)) ∙ is))
      by (inr hidden) = inr hidden

pub checked_true : CheckedCellsHoldRuns → CheckedCellsAreTrue
checked_true law g oct cells made few hold solved =
    let l = layout_of g oct in
    let h = law g oct cells made few solved in
    record {
      stores = λ v s r. (h.stores v s r).store;
      holds = holds g l cells made hold h;
      safe = safe g l cells made hold h;
      unreachable = unreachable g l cells made hold h;
      bounds = bounded g l cells made hold h;
      faults = faults g l cells made hold h;
    }
