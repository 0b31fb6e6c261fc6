-- Tokens that end have trees, or are refused.
use Rattle.std.specs.Prelude.{List}
use Rattle.pk_lex.specs.declared.token.Token.{Token}
use Rattle.pk_ast.specs.Trees.{ExternalTree}
use Rattle.pk_grammar.specs.declared.failure.ParseError.{ParseError}
use Rattle.pk_grammar.specs.Outcomes.{IsEnded}
use Rattle.pk_parse.specs.Refusals.{IsAccepted, IsRefused}

-- the tokens are accepted with some trees, or refused, for a cause other than want of memory: that refuses no tokens
pub data IsAcceptedOrRefused (tokens : List Token) : Type 0 where
  accepted : (ts : List ExternalTree) → IsAccepted tokens ts → IsAcceptedOrRefused tokens
  refused : (why : ParseError) → IsRefused tokens why → IsAcceptedOrRefused tokens

abbrev pub EndedAreAcceptedOrRefused : Type 0
EndedAreAcceptedOrRefused = (tokens : List Token) → IsEnded tokens → IsAcceptedOrRefused tokens
