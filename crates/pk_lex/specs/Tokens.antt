-- The tokens of a text: each the longest word at its place, with white space before, between and after them (C99 6.4).
use Rattle.std.specs.Prelude.{◌≡◌, ℕ, ◌+◌, List, [], ◌∷◌, ◌++◌, length, Some, IsTrue, IsFalse, ◌||◌}
use Rattle.pk_ctypes.specs.Places.{start_of_text, after_bytes}
use Rattle.pk_lex.specs.declared.token.Kind.{Kind}
use Rattle.pk_lex.specs.declared.token.Kind.TheVariants as kind
use Rattle.pk_lex.specs.declared.token.Token.{Token}
use Rattle.pk_lex.specs.Lines.{line_of, opens_directive, is_skipped}
use Rattle.pk_lex.specs.WhiteSpace.{opens_block, opens_line, IsWhite}
use Rattle.pk_lex.specs.Words.{is_word, IsLongest}
use Rattle.pk_lex.specs.Kinds.{kind_of}

-- the bytes of a token, between what stands before them and after them
pub data IsToken (front word after : List ℕ) : Kind → Type 0 where
  -- the longest word, where no comment begins
  longest : (k : Kind) → IsFalse (opens_block (word ++ after) || opens_line (word ++ after)) →
      IsLongest is_word (word ++ after) (length word) →
      kind_of word ≡ Some k → IsToken front word after k
  -- a line with a `#` that isn't skipped, from the `#` to the end of the line
  directive : IsTrue (opens_directive front (word ++ after)) → word ≡ line_of (word ++ after) →
      IsFalse (is_skipped word) → IsToken front word after kind.Directive

-- the token of a word, with what stands before it
abbrev pub token_of : List ℕ → List ℕ → Kind → Token
token_of front word k =
    record { kind = k; start = length front; end = length front + length word; at = after_bytes start_of_text front }

-- Read on from one place of a text, these tokens come, and then another place. A place is what stands before it and after it.
pub data Reads : List ℕ → List ℕ → List Token → List ℕ → List ℕ → Type 0 where
  nothing : {front rest : List ℕ} → Reads front rest [] front rest
  past_white : {front rest piece after end back : List ℕ} {tokens : List Token} → rest ≡ piece ++ after →
      IsWhite front piece after →
      Reads (front ++ piece) after tokens end back → Reads front rest tokens end back
  past_token : {front rest word after end back : List ℕ} {k : Kind} {tokens : List Token} → rest ≡ word ++ after →
      IsToken front word after k →
      Reads (front ++ word) after tokens end back → Reads front rest (token_of front word k ∷ tokens) end back

-- a text is these tokens, and an empty one at its end
abbrev pub IsLexed : List ℕ → List Token → Type 0
IsLexed text tokens =
    (words : List Token) × (tokens ≡ words ++ token_of text [] kind.End ∷ [] × Reads [] text words text [])
