-- Where a text has no tokens, and why.
use Rattle.std.specs.Prelude.{◌≡◌, ℕ, ◌<◌, List, [], codes, length, take, ◌||◌, if◌then◌else◌}
use Rattle.pk_ctypes.specs.declared.places.Pos.{Pos}
use Rattle.pk_ctypes.specs.Places.{start_of_text, after_bytes}
use Rattle.pk_lex.specs.declared.token.Token.{Token}
use Rattle.pk_lex.specs.declared.token.LexicalKind.{LexicalKind}
use Rattle.pk_lex.specs.declared.token.LexicalKind.TheVariants.{Byte, Constant, Char, String, Comment}
use Rattle.pk_lex.specs.declared.token.LexError.{LexError}
use Rattle.pk_lex.specs.declared.token.LexError.TheVariants.{Lexical, Memory}
use Rattle.pk_lex.specs.Bytes.{begins_with}
use Rattle.pk_lex.specs.WhiteSpace.{opens_block}
use Rattle.pk_lex.specs.Numbers.{is_number}
use Rattle.pk_lex.specs.Tokens.{Reads}
use Rattle.pk_lex.specs.Steps.{NoWhite, NoToken}

-- the word for it in a refusal
abbrev pub lexical_word : LexicalKind → List ℕ
lexical_word Byte = codes "byte"
lexical_word Constant = codes "constant"
lexical_word Char = codes "char"
lexical_word String = codes "string"
lexical_word Comment = codes "comment"

-- what is wrong where no token begins
abbrev pub lexical_kind : List ℕ → LexicalKind
lexical_kind text =
    if opens_block text then Comment else
    if begins_with 39 text then Char else
    if begins_with 34 text then String else
    if is_number (take 1 text) || is_number (take 2 text) then Constant else Byte

-- Something is left there, and neither white space nor a token begins.
pub record IsStuck (front rest : List ℕ) : Type 0 where
  pub more : 0 < length rest
  pub no_white : NoWhite front rest
  pub no_token : NoToken front rest

-- the text is tokens up to a place, and there no token begins
pub record FailsAt (text : List ℕ) (wrong : LexicalKind) (at : Pos) : Type 0 where
  pub tokens : List Token
  pub front : List ℕ
  pub back : List ℕ
  pub read : Reads [] text tokens front back
  pub stuck : IsStuck front back
  pub is : wrong ≡ lexical_kind back
  pub place : at ≡ after_bytes start_of_text front

-- want of memory says nothing of the text
abbrev pub IsRefused : List ℕ → LexError → Type 0
IsRefused text (Lexical wrong at) = FailsAt text wrong at
IsRefused text Memory = Unit {0}
