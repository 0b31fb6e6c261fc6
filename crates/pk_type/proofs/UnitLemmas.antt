-- External definitions from a place on.
use Rattle.std.proofs.Math.Seq.{drop-cons}
use Rattle.std.proofs.Math.Nat.{add-zero, add_assoc}
use Rattle.std.proofs.lemmas.List.{drop_all}
use Rattle.std.proofs.Common.{◌≡◌, ℕ, suc, ◌+◌, ◌<◌, ◌≤◌, Bool, List, [], ◌∷◌, Option, drop, get_or, length, add-one, ap, sym, ◌∙◌}
use Rattle.pk_ast.specs.declared.units.External.{External}
use Rattle.pk_ast.specs.Trees.{ExternalTree}
use Rattle.pk_ast.specs.Views.{external_tree, external_trees}
use Rattle.pk_type_scope.specs.declared.failures.Failure.{Failure}
use Rattle.pk_type.specs.Files.{Filed}
use Rattle.pk_type.specs.Units.{and_defined, defined_in, objects_of, objects_in, after_external, after_externals}
use Rattle.pk_type.specs.Rules.{noting}

pub next : (xs : List External) (i : ℕ) (x : External) → i < length xs → x ≡ get_or xs i x → external_trees (drop i xs) ≡ external_tree x ∷ external_trees (drop (i + 1) xs)
next xs i x h is = rw add-one (ap external_trees (drop-cons xs i x h ∙ ap (λ z. z ∷ drop (suc i) xs) (sym is)))

pub at_end : (xs : List External) (i : ℕ) → length xs ≤ i → external_trees (drop i xs) ≡ []
at_end xs i h = ap external_trees (drop_all i xs h)

abbrev Names : Type 0
Names = List ℕ → Bool

pub defined_step : (text : List ℕ) (has more all : Names) (now rest : List ExternalTree) (x : ExternalTree) → now ≡ x ∷ rest → more ≡ and_defined text x has → defined_in text now has ≡ all → defined_in text rest more ≡ all
unfolding defined_in
defined_step text has more all now rest x p q h = ap (defined_in text rest) q ∙ (ap (λ n. defined_in text n has) (sym p) ∙ h)

pub defined_done : (text : List ℕ) (has all : Names) (now : List ExternalTree) → now ≡ [] → defined_in text now has ≡ all → has ≡ all
unfolding defined_in
defined_done text has all now p h = ap (λ n. defined_in text n has) (sym p) ∙ h

abbrev Files : Type 0
Files = Filed (Option Failure)

pub externals_step : (has : Names) (f g all : Files) (now rest : List ExternalTree) (x : ExternalTree) → now ≡ x ∷ rest → g ≡ after_external noting has x f → after_externals noting has now f ≡ all → after_externals noting has rest g ≡ all
unfolding after_externals
externals_step has f g all now rest x p q h = ap (after_externals noting has rest) q ∙ (ap (λ n. after_externals noting has n f) (sym p) ∙ h)

pub externals_done : (has : Names) (f all : Files) (now : List ExternalTree) → now ≡ [] → after_externals noting has now f ≡ all → f ≡ all
unfolding after_externals
externals_done has f all now p h = ap (λ n. after_externals noting has n f) (sym p) ∙ h

pub count_step : (n m all : ℕ) (now rest : List ExternalTree) (x : ExternalTree) → now ≡ x ∷ rest → m ≡ n + objects_of x → n + objects_in now ≡ all → m + objects_in rest ≡ all
unfolding objects_in
count_step n m all now rest x p q h = ap (λ k. k + objects_in rest) q ∙ (add_assoc n (objects_of x) (objects_in rest) ∙ (ap (λ xs. n + objects_in xs) (sym p) ∙ h))

pub count_done : (n all : ℕ) (now : List ExternalTree) → now ≡ [] → n + objects_in now ≡ all → n ≡ all
unfolding objects_in
count_done n all now p h = sym (add-zero n) ∙ (ap (λ xs. n + objects_in xs) (sym p) ∙ h)
