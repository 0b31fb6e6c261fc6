-- Names of trees and the bytes of the text that was read.
use Rattle.std.specs.Prelude.{◌≡◌, ℕ, ◌≤◌, List, [], ◌∷◌, Some, length, take, slice_range}
use Rattle.pk_ctypes.specs.Places.{start_of_text, after_bytes}
use Rattle.pk_lex.specs.declared.token.Token.{Token}
use Rattle.pk_lex.specs.declared.token.Kind.TheVariants as kind
use Rattle.pk_lex.specs.Kinds.{kind_of}
use Rattle.pk_ast.specs.declared.expressions.Identifier.{Identifier}
use Rattle.pk_ast.specs.Names.{names_of}
use Rattle.pk_ast.specs.Trees.{ExternalTree}
use Rattle.pk_grammar.specs.Outcomes.{IsParsed}
use Rattle.pk_front.specs.Texts.{HasTokens}

-- the span lies in the text, its bytes are a name, and its place is that of the first of them
pub record StandsIn (text : List ℕ) (x : Identifier) : Type 0 where
  pub begins : x.start ≤ x.end
  pub ends : x.end ≤ length text
  pub is_name : kind_of (slice_range text x.start x.end) ≡ Some kind.Name
  pub place : x.at ≡ after_bytes start_of_text (take x.start text)

abbrev pub AllStandIn : List ℕ → List Identifier → Type 0
AllStandIn text [] = Unit {0}
AllStandIn text (x ∷ xs) = StandsIn text x × AllStandIn text xs

-- The names of trees stand in the text of which the trees' tokens were read.
abbrev pub NamesStandInTexts : Type 0
NamesStandInTexts =
    (text : List ℕ) (tokens : List Token) (trees : List ExternalTree) → HasTokens text tokens →
    IsParsed tokens trees → AllStandIn text (names_of trees)
