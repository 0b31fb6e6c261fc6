-- What the steps of an external definition leave.
use Rattle.std.proofs.Common.{◌≡◌, List, [], ◌∷◌, ◌++◌, Option, Some, None, refl}
use Rattle.pk_lex.specs.declared.token.Token.{Token}
use Rattle.pk_lex.specs.declared.token.Kind.TheVariants as kind
use Rattle.pk_lex.specs.declared.token.Keyword.TheVariants as key
use Rattle.pk_lex.specs.declared.token.Punctuator.TheVariants as mark
use Rattle.pk_ast.specs.declared.declarations.Specifier.{Specifier}
use Rattle.pk_ast.specs.declared.declarations.SpecifierWord.{SpecifierWord}
use Rattle.pk_ast.specs.declared.expressions.Identifier.{Identifier}
use Rattle.pk_ast.specs.declared.units.Storage.{Storage}
use Rattle.pk_ast.specs.declared.units.StorageWord.{StorageWord}
use Rattle.pk_ast.specs.Trees.{OneOrMore, EnumerationTree, ParameterTree, ExternalTree}
use Rattle.pk_ast.specs.Lists.{with_last}
use Rattle.pk_grammar.specs.declared.signs.Fixed.TheVariants as fixed
use Rattle.pk_grammar.specs.Languages.{Marked, identifier_of}
use Rattle.pk_grammar.specs.Grammar.{keyword, punctuator, stored, names, externals, statement}
use Rattle.pk_grammar.specs.Machine.Signs.{specifier_word, storage_word}
use Rattle.pk_grammar.specs.Machine.States.{Head, in_typedef, after_type_name}
use Rattle.pk_grammar.specs.Machine.Steps.{begin_external, begin_typedef, more_typedef, at_after_type_name, storage_or_specifier, at_parameters_closed, next_word}
use Rattle.pk_grammar.proofs.SpellsSigns.{IsSpecifier, is_specifier, IsNext, is_next, IsStorage, is_storage}
use Rattle.pk_grammar.proofs.SpellsWords.{and_none, ◌▹◌, push, none_more, gather, together, last_as}
use Rattle.pk_grammar.proofs.SpellsLists.{first_word, one_more_word, whole_at, names_end, externals_end}
use Rattle.pk_grammar.proofs.SpellsStates.{open_words, to_types, to_type_names, to_body, Spells}
use Rattle.pk_grammar.proofs.SpellsGood.{Good, fixed_good, wanted_good}
use Rattle.pk_grammar.proofs.SpellsEnumerations.{open_braces_good}

pub begin_external_good : (before : List ExternalTree) (s : Option Storage) (t : Token) (ms : List Marked) → (externals before 0 ▹ stored s 0) ms → Good (begin_external before s t (specifier_word t)) t ms
begin_external_good before s t ms h = go (specifier_word t) (is_specifier t)
  where
    go : (w : Option SpecifierWord) → IsSpecifier w t → Good (begin_external before s t w) t ms
    go (Some w) k = first_word w t 0 ms k h
    go None k = tt

pub at_top_good : (before : List ExternalTree) (t : Token) (ms : List Marked) → externals before 0 ms → Good (storage_or_specifier before t (storage_word t.kind)) t ms
at_top_good before t ms h = go (storage_word t.kind) (is_storage t.kind)
  where
    go : (w : Option StorageWord) → IsStorage w t.kind → Good (storage_or_specifier before t w) t ms
    go (Some w) k = push ms t h (k, refl)
    go None k = fixed_good fixed.End _ _ t ms (λ k. (k, h)) (fixed_good fixed.Typedef _ _ t ms (λ k. push ms t h k) (begin_external_good before None t ms (none_more 0 h)))

-- Type names

pub begin_typedef_good : (before : List ExternalTree) (t : Token) (ms : List Marked) → (externals before 0 ▹ keyword key.Typedef 0) ms → Good (begin_typedef before t (specifier_word t)) t ms
begin_typedef_good before t ms h = go (specifier_word t) (is_specifier t)
  where
    go : (w : Option SpecifierWord) → IsSpecifier w t → Good (begin_typedef before t w) t ms
    go (Some w) k = first_word w t 0 ms k h
    go None k = tt

pub more_typedef_good : (before : List ExternalTree) (ss : OneOrMore Specifier) (t : Token) (ms : List Marked) → (to_types before ▹ open_words ss 0) ms → Good (more_typedef before ss t (next_word ss t)) t ms
more_typedef_good before ss t ms h = go (next_word ss t) refl (is_next ss t)
  where
    go : (w : Option SpecifierWord) → next_word ss t ≡ w → IsNext ss w t → Good (more_typedef before ss t w) t ms
    go (Some w) e k = one_more_word ss w t 0 ms k h
    go None e k =
        fixed_good fixed.OpenBrace _ _ t ms (λ k. open_braces_good (in_typedef before) ss t ms k h)
        (wanted_good fixed.Name _ t ms (λ k. last_as (λ ts g. and_none 0 ts g) (push ms t (whole_at ss t 0 ms e k h) (k, refl))))

pub at_after_type_name_good : (before : List ExternalTree) (ss : OneOrMore Specifier) (e : Option EnumerationTree) (ids : OneOrMore Identifier) (t : Token) (ms : List Marked) →
    (to_type_names before ss e ▹ names ids 0) ms → Good (at_after_type_name before ss e ids t) t ms
at_after_type_name_good before ss e ids t ms h =
    fixed_good fixed.Comma _ _ t ms (λ k. push ms t h k)
    (wanted_good fixed.Semicolon _ t ms (λ k. externals_end before _ 0 _ (together (gather (gather (gather (push ms t h k)))))))

pub next_type_name_good : (before : List ExternalTree) (ss : OneOrMore Specifier) (e : Option EnumerationTree) (ids : OneOrMore Identifier) (t : Token) (ms : List Marked) →
    (to_type_names before ss e ▹ names ids 0 ▹ punctuator mark.Comma 0) ms → t.kind ≡ kind.Name →
    Spells (after_type_name before ss e (with_last ids (identifier_of t))) (ms ++ record { token = t; nesting = 0 } ∷ [])
next_type_name_good before ss e ids t ms h k = last_as (λ ts g. names_end ids (identifier_of t) 0 ts g) (gather (gather (push ms t h (k, refl))))

-- A function's end, or its body

pub at_parameters_closed_good : (h : Head) (ps : List ParameterTree) (t : Token) (ms : List Marked) → to_body h ps ms → Good (at_parameters_closed h ps t) t ms
unfolding statement
at_parameters_closed_good h ps t ms g =
    fixed_good fixed.Semicolon _ _ t ms (λ k. externals_end h.before _ 0 _ (together (gather (gather (gather (gather (gather (push ms t g k))))))))
    (wanted_good fixed.OpenBrace _ t ms (λ k. none_more 1 (push ms t g (k, refl))))
