-- Without an unknown verdict no run fails.
use Rattle.std.specs.Prelude.{◌≡◌, ℕ, zero, suc, ◌+◌, ◌<◌, Bool, true, cond, List, [], ◌∷◌, map, length, get_or, Contains, Some}
use Rattle.std.proofs.Common.{arith, ap, refl, sym, subst, ◌∙◌}
use Rattle.std.proofs.lemmas.List.Sums.{sum_by-cons}
use Rattle.pk_graph.specs.declared.verdicts.Verdict.{Verdict}
use Rattle.pk_graph.specs.Accesses.{AccessOf}
use Rattle.pk_report.specs.Reports.{is_unknown, unknown_in}
use Rattle.pk_meaning.specs.Programs.{Program}
use Rattle.pk_meaning.specs.Runs.{visit_of}
use Rattle.pk_report_laws.specs.Programs.Told.{Told, told_verdict}
use Rattle.pk_report_laws.specs.Programs.ToldOfPrograms.{HoldsOfProgram}
use Rattle.pk_report_laws.specs.Programs.Holding.{verdicts_in}
use Rattle.pk_report_laws.specs.Programs.Faultless.{NoRunFails}

abbrev weight : Bool → ℕ
weight b = cond b 1 0

-- an unknown verdict is counted
module _ (v : AccessOf → Verdict) (a : AccessOf) (unknown : is_unknown (v a) ≡ true) where
  one_more : (x : AccessOf) (xs : List AccessOf) → unknown_in (map v (x ∷ xs)) ≡ weight (is_unknown (v x)) + unknown_in (map v xs)
  one_more x xs = sum_by-cons (λ (u : Verdict). weight (is_unknown u)) (v x) (map v xs)

  counted_at : (x : AccessOf) (xs : List AccessOf) (k : ℕ) → k < length (x ∷ xs) → get_or (x ∷ xs) k a ≡ a → (Contains xs a → 0 < unknown_in (map v xs)) → 0 < unknown_in (map v (x ∷ xs))
  counted_at x xs zero below at rest =
      let one : weight (is_unknown (v x)) ≡ 1 = ap weight (ap (λ (y : AccessOf). is_unknown (v y)) at ∙ unknown) in
      subst (λ (n : ℕ). 0 < n) (sym (one_more x xs)) (omega (arith, one))
  counted_at x xs (suc k) below at rest =
      let more = rest (k, omega (arith, below), at) in
      subst (λ (n : ℕ). 0 < n) (sym (one_more x xs)) (omega (arith, more))

  counted : (xs : List AccessOf) → Contains xs a → 0 < unknown_in (map v xs)
  counted [] h = absurd (omega (h.1, arith))
  counted (x ∷ xs) h = counted_at x xs h.0 h.1 h.2 (counted xs)

pub faultless : (p : Program) (t : Told) → HoldsOfProgram p t → unknown_in (verdicts_in t) ≡ 0 → NoRunFails p
faultless p t holds none choice first last visits chosen fault site starts runs fails =
    let told = holds.faults (visit_of p first ∷ visits) (Some (record { fault = fault; site = site })) (record {
      choice = choice;
      first = first;
      last = last;
      others = visits;
      starts = starts;
      runs = runs;
      visits_are = refl;
      ends = (chosen, fails);
    }) in
    let some = counted (told_verdict t) told.access (ap is_unknown told.unknown) t.accesses told.listed in
    absurd (omega (arith, some, none))
