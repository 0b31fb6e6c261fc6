-- The names and places of a typed unit are those of the trees of its text, whether or not a rule fails.
use Rattle.std.specs.Prelude.{◌≡◌, ℕ, Bool, true, List, All, None}
use Rattle.std.specs.Str.Lossy.{utf8_lossy}
use Rattle.pk_ctypes.specs.declared.places.Pos.{Pos}
use Rattle.pk_lex.specs.declared.token.Token.{Token}
use Rattle.pk_ast.specs.declared.expressions.Identifier.{Identifier}
use Rattle.pk_ast.specs.Names.{names_of}
use Rattle.pk_ast.specs.Trees.{ExternalTree}
use Rattle.pk_grammar.specs.Outcomes.{IsParsed}
use Rattle.pk_type_scope.specs.Scopes.{spelled}
use Rattle.pk_type.specs.Rules.{noting}
use Rattle.pk_type.specs.Units.{checked, unit_of}
use Rattle.pk_places_laws.specs.Names as names
use Rattle.pk_places_laws.specs.Places as places
use Rattle.pk_unit_laws.specs.Trees as trees

-- What holds of the text of each name in the trees holds of each name of their typed unit.
abbrev pub NamesAreTheTexts : Type 0
NamesAreTheTexts =
    (text : List ℕ) (xs : List ExternalTree) (test : List ℕ → Bool) →
    All (λ (x : Identifier). test (utf8_lossy (spelled text x)) ≡ true) (names_of xs) →
    names.InUnit (λ name. test name ≡ true) (unit_of (checked noting None text xs))

-- What holds of each place in the trees holds of each place of their typed unit.
abbrev pub PlacesAreTheTexts : Type 0
PlacesAreTheTexts =
    (text : List ℕ) (xs : List ExternalTree) (test : Pos → Bool) → trees.InExternals (λ at. test at ≡ true) xs →
    places.InUnit (λ at. test at ≡ true) (unit_of (checked noting None text xs))

-- What holds of the place of each token holds of each place in the trees that are parsed from them.
abbrev pub PlacesAreTheTokens : Type 0
PlacesAreTheTokens =
    (tokens : List Token) (xs : List ExternalTree) (test : Pos → Bool) → IsParsed tokens xs →
    All (λ (t : Token). test t.at ≡ true) tokens → trees.InExternals (λ at. test at ≡ true) xs
