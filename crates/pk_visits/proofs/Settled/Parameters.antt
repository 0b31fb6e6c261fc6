-- The names of a path's parameters are in scope where its body begins, if those of the file's objects are before.
use Rattle.std.proofs.Common.{◌≡◌, ℕ, suc, ◌+◌, ◌<◌, List, [], ◌∷◌, length, Option, Some, None, refl, ap, sym, subst, ◌∙◌, arith}
use Rattle.pk_ctypes.specs.declared.types.IntType.{IntType}
use Rattle.pk_calls.specs.declared.listings.Caller.{Caller}
use Rattle.pk_draft.specs.Drafts.{inner, with_object}
use Rattle.pk_lower_row.specs.Contexts.{Context, local_at}
use Rattle.pk_lower_statement.specs.Statements.{named}
use Rattle.pk_lower.specs.Parts.{entry_parameter, introduced_parameter, all_introduced}
use Rattle.pk_meaning.specs.Objects.{Scope, local}
use Rattle.pk_meaning.specs.Programs as program
use Rattle.pk_meaning.specs.Programs.{local_of, with_local, with_parameters}
use Rattle.pk_meaning.specs.Steps.{place}
use Rattle.pk_visits.proofs.Slots.{Draft, Extends, Uncalled}
use Rattle.pk_visits.proofs.Stands.{Whole, Proper}
use Rattle.pk_visits.proofs.Settled.Shown.{name_shown}
use Rattle.pk_visits.proofs.Grows.Parts.{parameters_enlarge}

-- a name leaves the position, and how many variables there are
named_position : (o : Option (List ℕ)) (x : ℕ) (d : Draft) → (named o x d).here.at ≡ d.here.at
named_position None x d = refl
named_position (Some n) x d = refl

named_variables : (o : Option (List ℕ)) (x : ℕ) (d : Draft) → (named o x d).variables ≡ d.variables
named_variables None x d = refl
named_variables (Some n) x d = refl

-- one parameter
parameter_shown : (g : Whole) (proper : Proper g) (k : ℕ) (c : Context) (from : Option Caller) (i : ℕ) (xs : Scope) (d : Draft) → (local_at c i).name ≡ (local_of g.program k i).name → g.shows d.here k (place d.here.at xs) → k < length g.program.paths
    → i < g.objects k → g.numbers k i ≡ d.variables → Extends (introduced_parameter c from i d).scopes g.scopes
    → g.shows (introduced_parameter c from i d).here k (place (introduced_parameter c from i d).here.at (with_local g.program k i xs))
parameter_shown g proper k c None i xs d name shows path less is scopes =
    let x = local_at c i in
    let e = with_object i (entry_parameter x.name x.int_type x.length c.path) d in
    let f = named x.name d.variables e in
    subst (λ o. g.shows f.here k (place f.here.at (program.named o (local k i) xs))) name
    (subst (λ q. g.shows f.here k (place q (program.named x.name (local k i) xs))) (sym (named_position x.name d.variables e)) (name_shown g proper k i (place d.here.at xs) x.name d.variables e shows path less is scopes))
parameter_shown g proper k c (Some caller) i xs d name shows path less is scopes =
    let x = local_at c i in
    let e = with_object i (inner x.name x.int_type x.length c.path) d in
    let f = named x.name d.variables e in
    subst (λ o. g.shows f.here k (place f.here.at (program.named o (local k i) xs))) name
    (subst (λ q. g.shows f.here k (place q (program.named x.name (local k i) xs))) (sym (named_position x.name d.variables e)) (name_shown g proper k i (place d.here.at xs) x.name d.variables e shows path less is scopes))

parameter_variables : (c : Context) (from : Option Caller) (i : ℕ) (d : Draft) → (introduced_parameter c from i d).variables ≡ d.variables + 1
parameter_variables c None i d = let x = local_at c i in named_variables x.name d.variables (with_object i (entry_parameter x.name x.int_type x.length c.path) d)
parameter_variables c (Some caller) i d = let x = local_at c i in named_variables x.name d.variables (with_object i (inner x.name x.int_type x.length c.path) d)

pub parameters_shown : (g : Whole) (proper : Proper g) (k : ℕ) (c : Context) (from : Option Caller) (i : ℕ) (ts : List IntType) (xs : Scope) (d : Draft) → ((j : ℕ) → (local_at c j).name ≡ (local_of g.program k j).name) → g.shows d.here k (place d.here.at xs) → k < length g.program.paths
    → ((j : ℕ) → j < length ts → (i + j < g.objects k) × (g.numbers k (i + j) ≡ d.variables + j)) → Extends (all_introduced c from i ts d).scopes g.scopes
    → g.shows (all_introduced c from i ts d).here k (place (all_introduced c from i ts d).here.at (with_parameters g.program k i ts xs))
unfolding all_introduced
parameters_shown g proper k c from i [] xs d names shows path numbers scopes = shows
parameters_shown g proper k c from i (t ∷ ts) xs d names shows path numbers scopes =
    let e = introduced_parameter c from i d in
    let first = numbers 0 (omega arith) in
    let less = first.0 in
    let number : g.numbers k i ≡ d.variables = ap (g.numbers k) (omega arith) ∙ (first.1 ∙ omega arith) in
    let more = parameter_variables c from i d in
    let later = (parameters_enlarge [] Uncalled c from (i + 1) ts e).scopes in
    let one = parameter_shown g proper k c from i xs d (names i) shows path (omega (less, arith)) number (λ n z m. scopes n z (later n z m)) in
    parameters_shown g proper k c from (i + 1) ts (with_local g.program k i xs) e names one path
    (λ j low. let both = numbers (suc j) (omega (low, arith)) in let at : i + suc j ≡ i + 1 + j = omega arith in let a = both.0 in let b = both.1 in (omega (a, arith), ap (g.numbers k) (sym at) ∙ (b ∙ omega (more, arith)))) scopes
