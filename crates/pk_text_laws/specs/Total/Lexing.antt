-- Every text has tokens, or a place where none begins.
use Rattle.std.specs.Prelude.{ℕ, List}
use Rattle.pk_ctypes.specs.declared.places.Pos.{Pos}
use Rattle.pk_lex.specs.declared.token.Token.{Token}
use Rattle.pk_lex.specs.declared.token.LexicalKind.{LexicalKind}
use Rattle.pk_lex.specs.Tokens.{IsLexed}
use Rattle.pk_lex.specs.Failures.{FailsAt}

-- the text is some tokens, or fails somewhere
pub data IsLexedOrFails (text : List ℕ) : Type 0 where
  lexed : {tokens : List Token} → IsLexed text tokens → IsLexedOrFails text
  fails : {wrong : LexicalKind} {at : Pos} → FailsAt text wrong at → IsLexedOrFails text

abbrev pub EveryTextIsLexedOrFails : Type 0
EveryTextIsLexedOrFails = (text : List ℕ) → IsLexedOrFails text
