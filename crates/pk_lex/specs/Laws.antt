-- What follows from the definition of tokens.
use Rattle.std.specs.Prelude.{◌≡◌, ℕ, ◌≤◌, List, [], ◌∷◌, length}
use Rattle.pk_ctypes.specs.declared.places.Pos.{Pos}
use Rattle.pk_lex.specs.declared.token.Token.{Token}
use Rattle.pk_lex.specs.declared.token.LexicalKind.{LexicalKind}
use Rattle.pk_lex.specs.Tokens.{IsLexed}
use Rattle.pk_lex.specs.Failures.{FailsAt}

-- A text is at most one list of tokens, or fails at most at one place, and not both.
pub record TokensAreDetermined : Type 0 where
  pub one_list : (text : List ℕ) (a b : List Token) → IsLexed text a → IsLexed text b → a ≡ b
  pub one_kind : (text : List ℕ) (k l : LexicalKind) (p q : Pos) → FailsAt text k p → FailsAt text l q → k ≡ l
  pub one_place : (text : List ℕ) (k l : LexicalKind) (p q : Pos) → FailsAt text k p → FailsAt text l q → p ≡ q
  pub not_both : (text : List ℕ) (a : List Token) (k : LexicalKind) (p : Pos) → IsLexed text a → FailsAt text k p → ⊥

-- From a place on up to the end of a text, the tokens' spans follow one another.
abbrev pub FollowOneAnother : (from size : ℕ) → List Token → Type 0
FollowOneAnother from size [] = Unit {0}
FollowOneAnother from size (token ∷ tokens) =
    (from ≤ token.start) × (token.start ≤ token.end) × (token.end ≤ size) × FollowOneAnother token.end size tokens

-- each token's span lies in the text, and begins where the one before it ends or later
abbrev pub SpansAreInOrder : Type 0
SpansAreInOrder = (text : List ℕ) (tokens : List Token) → IsLexed text tokens → FollowOneAnother 0 (length text) tokens
