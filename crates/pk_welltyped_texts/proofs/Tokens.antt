-- The constants of tokens are numbers of their types (C99 6.4.4).
use Rattle.std.proofs.Common.{◌≡◌, ℕ, inl, inr, Bool, true, false, List, [], ◌∷◌, ◌++◌, Option, Some, None, refl, ap, sym, subst, if◌then◌else◌}
use Rattle.std.proofs.lemmas.Option.{none-some}
use Rattle.std.proofs.lemmas.Bool.{false≢true}
use Rattle.std.specs.Prelude.{ℤ, pos, unwrap_or, ◌&&◌, nat_le, length, drop, ◌==◌}
use Rattle.pk_lex.specs.Bytes.{value_in}
use Rattle.std.specs.Option.{option_map}
use Rattle.std.specs.List.{find}
use Rattle.pk_ctypes.specs.declared.types.IntType.{IntType}
use Rattle.pk_ctypes.specs.declared.types.IntType.TheVariants.{Char, Int, UInt, Long, ULong, LLong, ULLong}
use Rattle.pk_ctypes.specs.Types.{InType, is_in_type, low_of, high_of, wrapped}
use Rattle.pk_ctypes.proofs.Wrapped.{wrapped_in}
use Rattle.pk_ctypes.proofs.Common.{test-Represents}
use Rattle.pk_ctypes.proofs.Values.{test_le}
use Rattle.pk_lex.specs.declared.token.Keyword.{Keyword}
use Rattle.pk_lex.specs.declared.token.Punctuator.{Punctuator}
use Rattle.pk_lex.specs.declared.token.Kind.{Kind}
use Rattle.pk_lex.specs.declared.token.Kind.TheVariants as kind
use Rattle.pk_lex.specs.declared.token.Token.{Token}
use Rattle.pk_lex.specs.Characters.{is_character, code_of, between_quotes, character_of, is_string}
use Rattle.pk_lex.specs.Kinds.{keyword_or_name, number_kind, kind_of}
use Rattle.pk_lex.specs.Numbers as numbers
use Rattle.pk_lex.specs.Numbers.{allows, is_number, typed, constant_of, is_floating}
use Rattle.pk_lex.specs.Tables.{keyword_of, punctuator_of}
use Rattle.pk_lex.specs.Tokens.{IsToken, longest, directive, Reads, nothing, past_white, past_token, token_of, IsLexed}
use Rattle.pk_lex.specs.Words.{is_name}
use Rattle.pk_typenames.specs.TypeNames.{IsMarked, AreMarked}
use Rattle.pk_front.specs.Texts.{HasTokens}

-- a constant is a number of its type
abbrev pub KindIs : Kind → Type 0
KindIs (kind.Constant t v) = InType t (pos v)
KindIs (kind.Character v) = InType Int v
KindIs (kind.Keyword k) = Unit {0}
KindIs kind.Name = Unit {0}
KindIs kind.TypeName = Unit {0}
KindIs kind.Floating = Unit {0}
KindIs kind.StringLiteral = Unit {0}
KindIs (kind.Punctuator p) = Unit {0}
KindIs kind.Directive = Unit {0}
KindIs kind.End = Unit {0}

abbrev KindIf : Option Kind → Type 0
KindIf None = Unit {0}
KindIf (Some k) = KindIs k

either : (b : Bool) (x y : Option Kind) → KindIf x → KindIf y → KindIf (if b then x else y)
either true x y h k = h
either false x y h k = k

word_is : (o : Option Keyword) → KindIs (keyword_or_name o)
word_is None = tt
word_is (Some k) = tt

floating_is : (b : Bool) → KindIf (if b then Some kind.Floating else None)
floating_is true = tt
floating_is false = tt

and_second : (a b : Bool) → (a && b) ≡ true → b ≡ true
and_second true b h = h
and_second false b h = absurd (false≢true h)

and_first : (a b : Bool) → (a && b) ≡ true → a ≡ true
and_first true b h = refl
and_first false b h = absurd (false≢true h)

in_type : (t : IntType) (z : ℤ) → is_in_type t z ≡ true → InType t z
in_type t z h = record { from = test_le (low_of t) z (and_first _ _ h); to = test_le z (high_of t) (and_second _ _ h) }

-- what is found passes the test
picked : (test : IntType → Bool) (u t : IntType) (o : Option IntType) (b : Bool) → test u ≡ b → (o ≡ Some t → test t ≡ true) → (if b then Some u else o) ≡ Some t → test t ≡ true
picked test u t o true is k h = subst (λ (x : IntType). test x ≡ true) (ap (λ (q : Option IntType). unwrap_or q t) h) is
picked test u t o false is k h = k h

found_passes : (test : IntType → Bool) (ts : List IntType) (t : IntType) → find test ts ≡ Some t → test t ≡ true
found_passes test [] t h = absurd (none-some t h)
found_passes test (u ∷ ts) t h = picked test u t (find test ts) (test u) refl (found_passes test ts t) h

-- an integer constant of the first type that passes a test, or none
known : (word : List ℕ) (v : ℕ) (test : IntType → Bool) → ((t : IntType) → test t ≡ true → is_in_type t (pos v) ≡ true) → (ts : List IntType) (o : Option IntType) → find test ts ≡ o → KindIf (number_kind word (option_map (numbers.constant v) o))
known word v test h ts None e = floating_is (is_floating word)
known word v test h ts (Some t) e = in_type t (pos v) (h t (found_passes test ts t e))

typed_is : (word bytes : List ℕ) (d : Bool) (v : ℕ) → KindIf (number_kind word (typed d v (numbers.suffix_of bytes)))
typed_is word bytes d v = elim (numbers.suffix_of bytes) as (λ o. KindIf (number_kind word (typed d v o))) [
  | None ↦ floating_is (is_floating word)
  | Some s ↦ known word v (λ t. allows d s t && is_in_type t (pos v)) (λ t h. and_second (allows d s t) (is_in_type t (pos v)) h) (Int ∷ UInt ∷ Long ∷ ULong ∷ LLong ∷ ULLong ∷ []) (numbers.type_of d s v) refl
]

chosen_is : (word bytes : List ℕ) (b d : Bool) (v : ℕ) → KindIf (number_kind word (if b then typed d v (numbers.suffix_of bytes) else None))
chosen_is word bytes true d v = typed_is word bytes d v
chosen_is word bytes false d v = floating_is (is_floating word)

numbers_are : (word : List ℕ) → KindIf (number_kind word (constant_of word))
unfolding constant_of
numbers_are word =
    let digits = numbers.digits_of word in
    let base = numbers.base_of word in
    chosen_is word (drop (length digits) (numbers.unmarked word)) (nat_le 1 (length digits)) (base == 10) (value_in base digits)

char_in_int : (z : ℤ) → InType Char z → InType Int z
char_in_int = test-Represents Int Char refl

characters_are : (word : List ℕ) → KindIf (option_map kind.Character (character_of word))
unfolding character_of
characters_are word = known (code_of (between_quotes word))
  where
    known : (o : Option ℕ) → KindIf (option_map kind.Character (option_map (λ code. wrapped Char (pos code)) o))
    known None = tt
    known (Some c) = char_in_int (wrapped Char (pos c)) (wrapped_in Char (pos c))

punctuator_is : (o : Option Punctuator) → KindIf (option_map kind.Punctuator o)
punctuator_is None = tt
punctuator_is (Some p) = tt

kinds_are : (word : List ℕ) → KindIf (kind_of word)
unfolding kind_of
kinds_are word =
    either (is_name word) _ _ (word_is (keyword_of word)) (either (is_number word) _ _ (numbers_are word)
    (either (is_character word) _ _ (characters_are word) (either (is_string word) _ _ tt (punctuator_is (punctuator_of word)))))

kind_is : (word : List ℕ) (k : Kind) → kind_of word ≡ Some k → KindIs k
kind_is word k h = subst KindIf h (kinds_are word)

token_is : {front word after : List ℕ} {k : Kind} → IsToken front word after k → KindIs k
token_is {word = word} (longest k a b e) = kind_is word k e
token_is (directive a b c) = tt

-- ---- all tokens of a text

abbrev pub TokensAre : List Token → Type 0
TokensAre [] = Unit {0}
TokensAre (t ∷ ts) = KindIs t.kind × TokensAre ts

read_are : {front rest end back : List ℕ} {ts : List Token} → Reads front rest ts end back → TokensAre ts
read_are nothing = tt
read_are (past_white e w r) = read_are r
read_are (past_token e t r) = (token_is t, read_are r)

with_end : (ts : List Token) (t : Token) → TokensAre ts → KindIs t.kind → TokensAre (ts ++ t ∷ [])
with_end [] t h k = (k, tt)
with_end (x ∷ ts) t h k = (h.0, with_end ts t h.1 k)

lexed_are : (text : List ℕ) (ts : List Token) → IsLexed text ts → TokensAre ts
lexed_are text ts h = subst TokensAre (sym h.1.0) (with_end h.0 (token_of text [] kind.End) (read_are h.1.1) tt)

-- a type name is no constant
marked_is : (text : List ℕ) (front : List Token) (t m : Token) → IsMarked text front t m → KindIs t.kind → KindIs m.kind
marked_is text front t m (inl h) k = subst (λ (u : Token). KindIs u.kind) (sym h.1) tt
marked_is text front t m (inr h) k = subst (λ (u : Token). KindIs u.kind) (sym h.1) k

marked_are : (text : List ℕ) (front ts ms : List Token) → AreMarked text front ts ms → TokensAre ts → TokensAre ms
marked_are text front [] [] h k = tt
marked_are text front [] (m ∷ ms) h k = absurd h
marked_are text front (t ∷ ts) [] h k = absurd h
marked_are text front (t ∷ ts) (m ∷ ms) h k = (marked_is text front t m h.0 k.0, marked_are text (front ++ t ∷ []) ts ms h.1 k.1)

pub read_tokens_are : (text : List ℕ) (ts : List Token) → HasTokens text ts → TokensAre ts
read_tokens_are text ts h = marked_are text [] h.words ts h.marked (lexed_are text h.words h.lexed)
