-- What is promised of parsing.
use Rattle.std.specs.Prelude.{◌≡◌, ◌≢◌, ℕ, ◌<◌, ◌≤◌, List, [], ◌∷◌, ◌++◌, map}
use Rattle.pk_ctypes.specs.declared.places.Pos.{Pos}
use Rattle.pk_lex.specs.declared.token.Token.{Token}
use Rattle.pk_lex.specs.declared.token.Kind.TheVariants.{End}
use Rattle.pk_ast.specs.Trees.{ExternalTree}
use Rattle.pk_grammar.specs.Languages.{Marked}
use Rattle.pk_grammar.specs.Grammar.{text}

-- the greatest nesting of a token
abbrev pub nesting_limit : ℕ
nesting_limit = 128

-- the last token, and no other, is End
abbrev pub IsEnded : List Token → Type 0
IsEnded [] = ⊥
IsEnded (t ∷ []) = t.kind ≡ End
IsEnded (t ∷ u ∷ ts) = (t.kind ≢ End) × IsEnded (u ∷ ts)

-- the tokens without their nestings
abbrev pub unmarked : List Marked → List Token
unmarked = map (λ (m : Marked). m.token)

-- no token is nested deeper than the limit
abbrev pub IsWithin : List Marked → Type 0
IsWithin [] = Unit {0}
IsWithin (m ∷ ms) = (m.nesting ≤ nesting_limit) × IsWithin ms

-- The tokens are a text of these trees, and none is nested deeper than the limit.
pub record IsParsed (tokens : List Token) (trees : List ExternalTree) : Type 0 where
  pub marked : List Marked
  pub tokens_are : unmarked marked ≡ tokens
  pub derived : text trees 0 marked
  pub within : IsWithin marked

-- some text begins with these tokens
pub record SomeTextBegins (front : List Marked) : Type 0 where
  pub trees : List ExternalTree
  pub more : List Marked
  pub is : text trees 0 (front ++ more)

-- no text begins with these tokens
abbrev pub NoTextBegins : List Token → Type 0
NoTextBegins front =
    (trees : List ExternalTree) (marked : List Marked) (more : List Token) → text trees 0 marked →
    unmarked marked ≡ front ++ more → ⊥

-- At this place stands the first token such that no text begins with the tokens up to it. Some text begins with those before it,
-- none of which is nested deeper than the limit.
pub record FailsSyntax (tokens : List Token) (at : Pos) : Type 0 where
  pub front : List Marked
  pub found : Token
  pub rest : List Token
  pub tokens_are : tokens ≡ unmarked front ++ found ∷ rest
  pub place : found.at ≡ at
  pub begins : SomeTextBegins front
  pub within : IsWithin front
  pub none_begins : NoTextBegins (unmarked front ++ found ∷ [])

-- At this place stands the first token that is nested deeper than the limit, in a text that begins with the tokens up to it.
pub record FailsNesting (tokens : List Token) (at : Pos) : Type 0 where
  pub front : List Marked
  pub found : Marked
  pub rest : List Token
  pub tokens_are : tokens ≡ unmarked front ++ found.token ∷ rest
  pub place : found.token.at ≡ at
  pub begins : SomeTextBegins (front ++ found ∷ [])
  pub within : IsWithin front
  pub deeper : nesting_limit < found.nesting

-- A list of tokens is the text of one list of trees at most.
abbrev pub OneUnit : Type 0
OneUnit = (u v : List ExternalTree) (a b : List Marked) → text u 0 a → text v 0 b → unmarked a ≡ unmarked b → u ≡ v

-- what is left of a list behind these marked tokens
pub record GoesOnFrom (front marked : List Marked) : Type 0 where
  pub more : List Marked
  pub is : marked ≡ front ++ more

-- Where two texts begin with the same tokens, these are nested the same in both.
abbrev pub NestingsAreDetermined : Type 0
NestingsAreDetermined =
    (u v : List ExternalTree) (front : List Marked) (next : Marked) (more marked : List Marked) (rest : List Token) →
    text u 0 (front ++ next ∷ more) → text v 0 marked →
    unmarked marked ≡ unmarked front ++ rest → GoesOnFrom front marked
