-- Declared type names from a place on.
use Rattle.std.proofs.Common.{◌≡◌, Bool, List, [], ◌∷◌, Option, ap, sym, ◌∙◌}
use Rattle.std.specs.Option.{is_some}
use Rattle.pk_ctypes.specs.declared.words.Rule.TheVariants as rule
use Rattle.pk_ast.specs.declared.expressions.Identifier.{Identifier}
use Rattle.pk_ast.specs.Trees.{TypedefTree}
use Rattle.pk_type_scope.specs.declared.declarations.Declaration.TheVariants as declared
use Rattle.pk_type_scope.specs.declared.declarations.NamedType.{NamedType}
use Rattle.pk_type_scope.specs.declared.failures.Failure.{Failure}
use Rattle.pk_type_scope.specs.Failures.{noted, fails_if}
use Rattle.pk_type_scope.specs.Scopes.{declared_here, spelled}
use Rattle.pk_type_declaration.specs.Enumerations.{words_at, after_words}
use Rattle.pk_type_declaration.specs.Specials.{special}
use Rattle.pk_type_declaration.specs.Walks.{Walked, here, after_name}
use Rattle.pk_type_declaration.specs.Rules as declarations
use Rattle.pk_type_declaration.specs.Rules.{failing}
use Rattle.pk_type_statement.proofs.CaseLemmas.{failing_twice}
use Rattle.pk_type.specs.TypeNames.{named_type, after_type_name, after_type_names, after_typedef}

abbrev State : Type 0
State = Walked (Option Failure)

pub names_step : (t : NamedType) (w v all : State) (now rest : List Identifier) (x y : Identifier) → now ≡ y ∷ rest → x ≡ y → v ≡ after_type_name declarations.noting t x w → after_type_names declarations.noting t now w ≡ all → after_type_names declarations.noting t rest v ≡ all
unfolding after_type_names
names_step t w v all now rest x y p is q h = ap (after_type_names declarations.noting t rest) (q ∙ ap (λ z. after_type_name declarations.noting t z w) is) ∙ (ap (λ n. after_type_names declarations.noting t n w) (sym p) ∙ h)

pub names_ended : (t : NamedType) (w all : State) (now : List Identifier) → now ≡ [] → after_type_names declarations.noting t now w ≡ all → w ≡ all
unfolding after_type_names
names_ended t w all now p h = ap (λ n. after_type_names declarations.noting t n w) (sym p) ∙ h

-- a name, step by step
pub name_step : (t : NamedType) (x : Identifier) (w a b c : State) (again odd : Bool) → again ≡ is_some (declared_here w.scoping x) → odd ≡ is_some (special (spelled w.scoping.text x)) → a ≡ after_name x (declared.TypeName t) w →
    b ≡ failing noted (fails_if again rule.Redeclared x.at) a → c ≡ failing noted (fails_if odd rule.Special x.at) b → c ≡ after_type_name declarations.noting t x w
name_step t x w a b c again odd p q r s e =
    let v : State = after_name x (declared.TypeName t) w in
    let declared_before : Bool = is_some (declared_here w.scoping x) in
    let special_here : Bool = is_some (special (spelled w.scoping.text x)) in
    e ∙ (ap (λ y. failing noted (fails_if odd rule.Special x.at) y) (s ∙ ap (failing noted (fails_if again rule.Redeclared x.at)) r)
    ∙ (ap (λ k. failing noted (fails_if k rule.Special x.at) (failing noted (fails_if again rule.Redeclared x.at) v)) q
    ∙ (ap (λ k. failing noted (fails_if special_here rule.Special x.at) (failing noted (fails_if k rule.Redeclared x.at) v)) p
    ∙ sym (failing_twice (fails_if declared_before rule.Redeclared x.at) (fails_if special_here rule.Special x.at) v))))

-- a declaration, step by step
pub typedef_step : (d : TypedefTree) (t : NamedType) (xs : List Identifier) (w a b v : State) → t ≡ named_type (words_at (here w) d.specifiers d.enumeration) → xs ≡ d.names.more → a ≡ after_words declarations.noting d.specifiers d.enumeration w →
    b ≡ after_type_name declarations.noting t d.names.first a → v ≡ after_type_names declarations.noting t xs b → v ≡ after_typedef declarations.noting d w
unfolding after_typedef after_type_names
typedef_step d t xs w a b v p q r s e =
    let x = d.names.first in
    e ∙ (ap (λ ys. after_type_names declarations.noting t ys b) q
    ∙ (ap (after_type_names declarations.noting t d.names.more) (s ∙ ap (after_type_name declarations.noting t x) r)
    ∙ ap (λ u. after_type_names declarations.noting u d.names.more (after_type_name declarations.noting u x (after_words declarations.noting d.specifiers d.enumeration w))) p))
