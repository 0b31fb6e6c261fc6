-- Verdicts by a solved family hold in all runs, and so those by the result.
use Rattle.std.specs.Prelude.{◌≡◌, ℤ}
use Rattle.std.proofs.Common.{refl, inl, inr}
use Rattle.std.proofs.lemmas.List.Elements.{All-contains}
use Rattle.pk_graph.specs.Graphs.{kinds_of}
use Rattle.pk_graph.specs.declared.verdicts.Verdict.{Verdict}
use Rattle.pk_graph.specs.declared.verdicts.Verdict.TheVariants.{Safe, Unknown, Unreachable}
use Rattle.pk_graph.specs.Accesses.{OperationOf, Index, Divisor, Negation, Result, Shift, Assertion, accesses_of, of_instr}
use Rattle.pk_graph.specs.Graphs.{no_point, point_at}
use Rattle.pk_verdict.specs.Verdicts.{verdict_of}
use Rattle.pk_graph.specs.WellMade.{IsEdgeOf}
use Rattle.pk_graph.specs.Stores.{Stored}
use Rattle.pk_transfer.specs.Slots.{spread}
use Rattle.pk_state.proofs.Held.{facts_stay}
use Rattle.pk_state.proofs.Sound.{states_sound}
use Rattle.pk_sound.proofs.Accesses.{IsAccessAt, in_instr, IsAccess, accesses_are}
use Rattle.pk_sound.proofs.Failing.{faults_are_accesses}
use Rattle.pk_sound.proofs.Judging.{verdict_safe, verdict_there}
use Rattle.pk_sound.proofs.Padding.{pad, kinds_up, store_up, over_up, operation_up, faults_pad, evaluated_pad}
use Rattle.pk_state.specs.Reduced.{reduced}
use Rattle.pk_sound.specs.Verdicts.{IsEvaluatedIn, FaultsIn, VerdictsHold}
use Rattle.pk_sound.specs.Faults.{FaultsAreUnknown}
use Rattle.pk_sound.specs.Results.{known_at_point}
use Rattle.pk_sound.specs.FamilyRuns.{FamiliesJudge, FamiliesTellFaults}
use Rattle.pk_sound.proofs.Holding.{reached, results_are_families}

pub families_judge : FamiliesJudge
families_judge g l known made_of solved access s has run =
    let at = reached g l known made_of solved access.point s run in
    let facts = solved.facts access.point at.point in
    let stays = facts_stay.reductions l (known access.point) made_of.layout facts in
    let member = states_sound.kept l (known access.point) (spread (pad s)) made_of.layout facts at.member in
    let wide = over_up (kinds_of g) l made_of.over in
    let store = store_up (kinds_of g) s at.store in
    let made : IsAccess g access = All-contains (IsAccess g) (accesses_of g) access (accesses_are g made_of.graph) has in
    record {
      safe = λ v e. verdict_safe (kinds_up (kinds_of g)) l (reduced l (known access.point)) (pad s) access.operation wide made_of.layout stays member store (operation_up (kinds_of g) access.operation made.typed) made.kind v (faults_pad access.operation s e);
      unreachable = λ v e. verdict_there (kinds_up (kinds_of g)) l (reduced l (known access.point)) (pad s) access.operation wide made_of.layout stays member store (operation_up (kinds_of g) access.operation made.typed) made.kind v (evaluated_pad access.operation s e);
    }

-- ---- a fault is at an access of which nothing is known

evaluated : (o : OperationOf) (s : Stored) → FaultsIn o s → IsEvaluatedIn o s
evaluated (Index n i) s h = (h.0, h.1)
evaluated (Divisor a b) s h = (h.0, h.1, h.2, h.3)
evaluated (Negation t e) s h = (h.0, h.1)
evaluated (Result op t a b) s h = (h.0, h.1, h.2, h.3)
evaluated (Shift op t a b) s h = (h.0, h.1, h.2, h.3)
evaluated (Assertion e) s h = (h.0, h.1)

unknown_by : (v : Verdict) → (v ≡ Safe → ⊥) → (v ≡ Unreachable → ⊥) → (lo : ℤ) × (hi : ℤ) × (v ≡ Unknown lo hi)
unknown_by Safe f g = absurd (f refl)
unknown_by (Unknown lo hi) f g = (lo, hi, refl)
unknown_by Unreachable f g = absurd (g refl)

pub families_tell_faults : FamiliesTellFaults
families_tell_faults g l known made_of solved p s e chosen w run has goes =
    let at = reached g l known made_of solved p s run in
    let facts = solved.facts p at.point in
    let stays = facts_stay.reductions l (known p) made_of.layout facts in
    let member = states_sound.kept l (known p) (spread (pad s)) made_of.layout facts at.member in
    let wide = over_up (kinds_of g) l made_of.over in
    let store = store_up (kinds_of g) s at.store in
    let edge : IsEdgeOf g e = All-contains (IsEdgeOf g) (point_at g p).edges e (made_of.graph.points p no_point at.point).edges has in
    elim (faults_are_accesses (kinds_of g) p e.instr chosen s w edge.typed at.store goes) [
      | inl found ↦
          let made : IsAccessAt (kinds_of g) p found.0 = All-contains (IsAccessAt (kinds_of g) p) (of_instr p e.instr) found.0 (in_instr (kinds_of g) p e.instr edge.typed) found.1.listed in
          inl (
            found.0,
            found.1,
            unknown_by (verdict_of l (reduced l (known p)) found.0.operation)
                (λ v. verdict_safe (kinds_up (kinds_of g)) l (reduced l (known p)) (pad s) found.0.operation wide made_of.layout stays member store (operation_up (kinds_of g) found.0.operation made.typed) made.kind v (faults_pad found.0.operation s found.1.faults))
                (λ v. verdict_there (kinds_up (kinds_of g)) l (reduced l (known p)) (pad s) found.0.operation wide made_of.layout stays member store (operation_up (kinds_of g) found.0.operation made.typed) made.kind v (evaluated_pad found.0.operation s (evaluated found.0.operation s found.1.faults))),
          )
      | inr hidden ↦ inr hidden
    ]

-- ---- by the result

pub verdicts_hold : VerdictsHold
verdicts_hold g o p order a most it is access s has run =
    let family = results_are_families g o p order a most it is in
    let right = families_judge g a.layout (known_at_point a it) family.laid_out family.solved access s has run in
    record { safe = right.safe; unreachable = right.unreachable }

pub faults_are_unknown : FaultsAreUnknown
faults_are_unknown g o q order a most it is =
    let family = results_are_families g o q order a most it is in
    families_tell_faults g a.layout (known_at_point a it) family.laid_out family.solved
