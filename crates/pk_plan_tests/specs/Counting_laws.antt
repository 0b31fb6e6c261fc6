-- The small system of the tests keeps its cells at ten.
use Rattle.std.proofs.Common.{ℕ, zero, suc, ◌<◌, ◌≤◌, List, [], ◌∷◌, max, arith, Bool, true, false, cond, nat_le}
use Rattle.std.proofs.lemmas.List.Elements.{All-from_recursion}
use Rattle.pk_iterate.specs.declared.systems.Decision.TheVariants.{Stable, Again}
use Rattle.pk_iterate.specs.Behaviour.{decided_cell, ReadsWithin}
use Rattle.pk_plan_tests.specs.Counting.{bound_of, decision_of, counting}

pub first-le : 0 ≤ 10
first-le = omega arith

pub bound-le : (inputs : List ℕ) → bound_of inputs ≤ 10
bound-le [] = omega arith
bound-le (a ∷ []) = omega arith
bound-le (a ∷ b ∷ []) = omega arith
bound-le (a ∷ b ∷ c ∷ []) = omega arith
bound-le (a ∷ b ∷ c ∷ d ∷ more) = omega arith

by_test : (t : Bool) → decided_cell (cond t (Stable 0) (Again 0)) ≤ 10
by_test true = omega arith
by_test false = omega arith

pub decision-le : (inputs : List ℕ) → decided_cell (decision_of inputs) ≤ 10
decision-le [] = omega arith
decision-le (a ∷ []) = omega arith
decision-le (a ∷ b ∷ []) = omega arith
decision-le (h ∷ a ∷ b ∷ []) = by_test (nat_le (max a b) h)
decision-le (a ∷ b ∷ c ∷ d ∷ more) = omega arith

pub counting_reads : ReadsWithin counting 6
counting_reads zero below = λ k d in_range. absurd (omega arith)
counting_reads (suc zero) below =
    All-from_recursion (λ (u : ℕ). u < 6) (0 ∷ 2 ∷ 1 ∷ []) (omega arith, (omega arith, (omega arith, tt)))
counting_reads (suc (suc zero)) below = All-from_recursion (λ (u : ℕ). u < 6) (1 ∷ []) (omega arith, tt)
counting_reads (suc (suc (suc zero))) below =
    All-from_recursion (λ (u : ℕ). u < 6) (1 ∷ 0 ∷ 2 ∷ []) (omega arith, (omega arith, (omega arith, tt)))
counting_reads (suc (suc (suc (suc zero)))) below = λ k d in_range. absurd (omega arith)
counting_reads (suc (suc (suc (suc (suc zero))))) below =
    All-from_recursion (λ (u : ℕ). u < 6) (0 ∷ []) (omega arith, tt)
counting_reads (suc (suc (suc (suc (suc (suc n)))))) below = λ k d in_range. absurd (omega arith)
