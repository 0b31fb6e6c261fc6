-- The cases of a `switch` from a place on.
use Rattle.std.proofs.Math.Seq.{drop-cons}
use Rattle.std.proofs.lemmas.List.{drop_all}
use Rattle.std.proofs.Common.{◌≡◌, ℕ, ◌+◌, ◌<◌, ◌≤◌, ℤ, Bool, drop, get_or, add-one, List, [], ◌∷◌, ◌++◌, Option, Some, option_map, ap, sym, ◌∙◌, length}
use Rattle.pk_ctypes.specs.declared.types.IntType.{IntType}
use Rattle.pk_ctypes.specs.declared.words.Rule.TheVariants as rule
use Rattle.pk_ctypes.specs.Types.{wrapped}
use Rattle.pk_type_scope.specs.declared.failures.Failure.{Failure}
use Rattle.pk_type_scope.specs.Failures.{noted, fails_if}
use Rattle.pk_type_expression.specs.Typed.{of_both}
use Rattle.pk_type_scope.proofs.FailureLemmas.{noted_append}
use Rattle.pk_type_declaration.specs.Parts.{joined}
use Rattle.pk_type_declaration.specs.Walks.{Walked}
use Rattle.pk_type_declaration.specs.Rules.{failing}
use Rattle.pk_type_declaration.proofs.PartLemmas.{joined_step, joined_none, none_joined}
use Rattle.pk_type_statement.specs.declared.statements.Case.{Case}
use Rattle.pk_type_statement.specs.Trees.{case_numbers}
use Rattle.pk_type_statement.specs.Rules.{Numbers, repeated, is_repeated, and_case}

abbrev State : Type 0
State = Walked (Option Failure)

pub failing_twice : (fs gs : List Failure) (w : State) → failing noted (fs ++ gs) w ≡ failing noted gs (failing noted fs w)
failing_twice fs gs w = ap (λ f. record w { found = f }) (noted_append w.found fs gs)

pub next : (cases : List Case) (i : ℕ) (d : Case) → i < length cases → drop i cases ≡ get_or cases i d ∷ drop (i + 1) cases
next cases i d h = rw add-one (drop-cons cases i d h)

pub at_end : (cases : List Case) (i : ℕ) → length cases ≤ i → drop i cases ≡ []
at_end cases i h = drop_all i cases h

pub next_walked : (t : IntType) (before after : Numbers) (w v all : State) (c : Case) (now rest : List Case) (b : Bool) → now ≡ c ∷ rest → after ≡ and_case t before c.value → b ≡ is_repeated t before c.value →
    v ≡ failing noted (fails_if b rule.Jump c.at) w → failing noted (repeated t before now) w ≡ all → failing noted (repeated t after rest) v ≡ all
next_walked t before after w v all c now rest b p q e r h =
    ap (λ b. failing noted (repeated t b rest) v) q
    ∙ (ap (failing noted (repeated t (and_case t before c.value) rest)) (r ∙ ap (λ x. failing noted (fails_if x rule.Jump c.at) w) e)
    ∙ (sym (failing_twice (fails_if (is_repeated t before c.value) rule.Jump c.at) (repeated t (and_case t before c.value) rest) w)
    ∙ (ap (λ cs. failing noted (repeated t before cs) w) (sym p) ∙ h)))

pub end_walked : (t : IntType) (before : Numbers) (w v : State) (now : List Case) → now ≡ [] → failing noted (repeated t before now) w ≡ v → w ≡ v
end_walked t before w v now p h = ap (λ cs. failing noted (repeated t before cs) w) (sym p) ∙ h

abbrev Values : Type 0
Values = Option (List ℤ)

pub next_numbers : (t : IntType) (c : Case) (now rest : List Case) (xs ys all : Values) (n : Option ℤ) → now ≡ c ∷ rest → n ≡ option_map (wrapped t) c.value → ys ≡ of_both (λ zs z. zs ++ z ∷ []) xs n →
    joined xs (case_numbers t now) ≡ all → joined ys (case_numbers t rest) ≡ all
next_numbers t c now rest xs ys all n p q r h =
    ap (λ y. joined y (case_numbers t rest)) (r ∙ ap (of_both (λ zs z. zs ++ z ∷ []) xs) q)
    ∙ (sym (joined_step xs (option_map (wrapped t) c.value) (case_numbers t rest)) ∙ (ap (λ cs. joined xs (case_numbers t cs)) (sym p) ∙ h))

pub end_numbers : (t : IntType) (now cases : List Case) (xs first result : Values) → now ≡ [] → result ≡ xs → first ≡ Some [] → joined xs (case_numbers t now) ≡ joined first (case_numbers t cases) → result ≡ case_numbers t cases
end_numbers t now cases xs first result p q r h =
    q ∙ (sym (joined_none xs) ∙ (ap (λ cs. joined xs (case_numbers t cs)) (sym p) ∙ (h ∙ (ap (λ y. joined y (case_numbers t cases)) r ∙ none_joined (case_numbers t cases)))))
