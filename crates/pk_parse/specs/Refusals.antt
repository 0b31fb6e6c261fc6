-- What is promised of parsing: a text's trees, or why there are none.
use Rattle.std.specs.Prelude.{◌≡◌, ℕ, List}
use Rattle.pk_lex.specs.declared.token.Token.{Token}
use Rattle.pk_lex.specs.Tokens.{IsLexed}
use Rattle.pk_ast.specs.Trees.{ExternalTree}
use Rattle.pk_constructs.specs.Constructs.{IsSupported, FirstUnsupported}
use Rattle.pk_grammar.specs.declared.failure.ParseError.{ParseError}
use Rattle.pk_grammar.specs.declared.failure.ParseError.TheVariants.{Unsupported, Syntax, Nesting, Memory}
use Rattle.pk_grammar.specs.Outcomes.{IsEnded, IsParsed, FailsSyntax, FailsNesting}

-- The tokens show no construct that isn't analysed, are a text of these trees, and none is nested too deep.
pub record IsAccepted (tokens : List Token) (trees : List ExternalTree) : Type 0 where
  pub supported : IsSupported tokens
  pub parsed : IsParsed tokens trees

-- A construct that isn't analysed is told first, wherever it stands. Want of memory is no refusal of the tokens.
abbrev pub IsRefused : List Token → ParseError → Type 0
IsRefused tokens (Unsupported construct at) = FirstUnsupported tokens construct at
IsRefused tokens (Syntax at) = IsSupported tokens × FailsSyntax tokens at
IsRefused tokens (Nesting at) = IsSupported tokens × FailsNesting tokens at
IsRefused tokens Memory = ⊥

-- Tokens are accepted with one list of trees at most, or refused in one way at most, and not both.
pub record AnswerIsDetermined : Type 0 where
  pub trees : (tokens : List Token) (u v : List ExternalTree) → IsAccepted tokens u → IsAccepted tokens v → u ≡ v
  pub refusal : (tokens : List Token) (x y : ParseError) → IsRefused tokens x → IsRefused tokens y → x ≡ y
  pub apart : (tokens : List Token) (u : List ExternalTree) (x : ParseError) → IsAccepted tokens u →
      IsRefused tokens x → ⊥

-- the tokens of a text are what parsing asks for: the last, and no other, is End
abbrev pub LexedIsEnded : Type 0
LexedIsEnded = (bytes : List ℕ) (tokens : List Token) → IsLexed bytes tokens → IsEnded tokens
