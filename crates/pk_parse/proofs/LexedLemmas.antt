-- The tokens of a text end with End, and none before it is End.
use Rattle.std.proofs.Common.{◌≡◌, ◌≢◌, ℕ, List, [], ◌∷◌, ◌++◌, Option, Some, None, Bool, true, false, refl, sym, ap, subst, ◌∙◌}
use Rattle.std.specs.Prelude.{if◌then◌else◌}
use Rattle.pk_lex.specs.declared.token.Keyword.{Keyword}
use Rattle.pk_lex.specs.declared.token.Kind.{Kind}
use Rattle.pk_lex.specs.declared.token.Kind.TheVariants as kind
use Rattle.pk_lex.specs.declared.token.Token.{Token}
use Rattle.std.specs.Option.{option_map}
use Rattle.pk_lex.specs.Tables.{keyword_of, punctuator_of}
use Rattle.pk_lex.specs.Numbers.{is_number, constant_of, is_floating}
use Rattle.pk_lex.specs.Characters.{is_character, character_of, is_string}
use Rattle.pk_lex.specs.Words.{is_name}
use Rattle.pk_lex.specs.Kinds.{keyword_or_name, number_kind, kind_of}
use Rattle.pk_lex.specs.Tokens.{IsToken, longest, directive, Reads, nothing, past_white, past_token, IsLexed}
use Rattle.pk_grammar.specs.Outcomes.{IsEnded}

either : (b : Bool) (x y : Option Kind) → x ≢ Some kind.End → y ≢ Some kind.End → (if b then x else y) ≢ Some kind.End
either true x y f g = f
either false x y f g = g

no_word : (k : Option Keyword) → Some (keyword_or_name k) ≢ Some kind.End
no_word None = λ e. cc
no_word (Some k) = λ e. cc

no_number : (word : List ℕ) → number_kind word (constant_of word) ≢ Some kind.End
no_number word =
    elim (constant_of word) as (λ o. number_kind word o ≢ Some kind.End) [
      | None ↦ either (is_floating word) (Some kind.Floating) None (λ e. cc) (λ e. cc)
      | Some c ↦ λ e. cc
    ]

kind_is_no_end : (word : List ℕ) → kind_of word ≢ Some kind.End
unfolding kind_of
kind_is_no_end word =
    either (is_name word) _ _ (no_word (keyword_of word))
    (either (is_number word) _ _ (no_number word)
    (either (is_character word) _ _ (elim (character_of word) as (λ o. option_map kind.Character o ≢ Some kind.End) [ None ↦ λ e. cc | Some v ↦ λ e. cc ])
    (either (is_string word) _ _ (λ e. cc) (elim (punctuator_of word) as (λ o. option_map kind.Punctuator o ≢ Some kind.End) [ None ↦ λ e. cc | Some p ↦ λ e. cc ]))))

token_is_no_end : (front word after : List ℕ) (k : Kind) → IsToken front word after k → k ≢ kind.End
token_is_no_end front word after k (longest l a b e) = λ f. kind_is_no_end word (e ∙ ap Some f)
token_is_no_end front word after k (directive a b c) = λ f. cc

abbrev AreNoEnds : List Token → Type 0
AreNoEnds [] = Unit {0}
AreNoEnds (t ∷ ts) = (t.kind ≢ kind.End) × AreNoEnds ts

no_ends : (front rest : List ℕ) (ts : List Token) (end back : List ℕ) → Reads front rest ts end back → AreNoEnds ts
no_ends front rest ts end back nothing = tt
no_ends front rest ts end back (past_white {piece = p} {after = a} cut white more) = no_ends (front ++ p) a ts end back more
no_ends front rest ts end back (past_token {word = w} {after = a} {k = k} {tokens = us} cut token more) = (token_is_no_end front w a k token, no_ends (front ++ w) a us end back more)

ended : (words : List Token) (t : Token) → AreNoEnds words → t.kind ≡ kind.End → IsEnded (words ++ t ∷ [])
ended [] t h e = e
ended (w ∷ []) t h e = (h.0, e)
ended (w ∷ v ∷ words) t h e = (h.0, ended (v ∷ words) t h.1 e)

pub lexed_is_ended : (bytes : List ℕ) (tokens : List Token) → IsLexed bytes tokens → IsEnded tokens
lexed_is_ended bytes tokens l = subst IsEnded (sym l.1.0) (ended l.0 _ (no_ends [] bytes l.0 bytes [] l.1.1) refl)
