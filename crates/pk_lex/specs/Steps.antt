-- What stands at the beginning of the rest of a text, by how many bytes it has.
use Rattle.std.specs.Prelude.{◌≡◌, ℕ, ◌+◌, ◌≤◌, List, [], ◌∷◌, ◌++◌, length, take, drop, codes, Bool, not, ◌==◌, if◌then◌else◌, IsFalse}
use Rattle.std.specs.List.{take_while}
use Rattle.pk_lex.specs.declared.token.Kind.{Kind}
use Rattle.pk_lex.specs.WhiteSpace.{has_close, IsWhite}
use Rattle.pk_lex.specs.Tokens.{IsToken}

abbrev pub is_unquoted : ℕ → Bool
is_unquoted b = not (b == 39)

abbrev pub quote_after_escape : List ℕ → ℕ
quote_after_escape [] = 0
quote_after_escape (b ∷ bytes) = 1 + length (take_while is_unquoted bytes)

-- how many bytes stand before the first `'`, or before the first that isn't right behind a backslash at the beginning
abbrev pub quote_at : List ℕ → ℕ
quote_at [] = 0
quote_at (b ∷ bytes) = if b == 92 then 1 + quote_after_escape bytes else length (take_while is_unquoted (b ∷ bytes))

-- n bytes stand before the first `*/`
pub record IsFirstClose (text : List ℕ) (n : ℕ) : Type 0 where
  pub fits : n + 2 ≤ length text
  pub before : IsFalse (has_close (take n text))
  pub cut : text ≡ take n text ++ codes "*/" ++ drop (n + 2) text

abbrev pub NoWhite : List ℕ → List ℕ → Type 0
NoWhite front rest = (piece after : List ℕ) → rest ≡ piece ++ after → IsWhite front piece after → ⊥

abbrev pub NoToken : List ℕ → List ℕ → Type 0
NoToken front rest = (word after : List ℕ) (k : Kind) → rest ≡ word ++ after → IsToken front word after k → ⊥

-- the first n bytes are a piece of white space
pub record IsFirstWhite (front rest : List ℕ) (n : ℕ) : Type 0 where
  pub fits : n ≤ length rest
  pub is : IsWhite front (take n rest) (drop n rest)

-- the first n bytes are a token
pub record IsFirstToken (front rest : List ℕ) (n : ℕ) (k : Kind) : Type 0 where
  pub fits : n ≤ length rest
  pub is : IsToken front (take n rest) (drop n rest) k
