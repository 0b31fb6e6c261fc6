-- Reading a text token by token, each name stands in it.
use Rattle.std.proofs.Common.{◌≡◌, ℕ, ◌+◌, ◌-◌, inl, inr, List, [], ◌∷◌, ◌++◌, ℤ, Bool, true, false, if◌then◌else◌, Option, Some, None, length, refl, ap, sym, subst, ◌∙◌, arith, length-append, append_assoc}
use Rattle.std.proofs.Math.Seq.{drop-append_seam, take-append_seam}
use Rattle.std.specs.Option.{option_map}
use Rattle.std.specs.Prelude.{take, drop, slice_range}
use Rattle.pk_ctypes.specs.Places.{start_of_text, after_bytes}
use Rattle.pk_lex.specs.declared.token.Kind.{Kind}
use Rattle.pk_lex.specs.declared.token.Kind.TheVariants as kind
use Rattle.pk_lex.specs.declared.token.Token.{Token}
use Rattle.pk_lex.specs.declared.token.Keyword.{Keyword}
use Rattle.pk_lex.specs.declared.token.Punctuator.{Punctuator}
use Rattle.pk_lex.specs.Tables.{keyword_of, punctuator_of}
use Rattle.pk_lex.specs.Numbers.{is_number, constant_of, is_floating}
use Rattle.pk_lex.specs.Characters.{is_character, character_of, is_string}
use Rattle.pk_lex.specs.Words.{is_name}
use Rattle.pk_lex.specs.Kinds.{keyword_or_name, number_kind, kind_of}
use Rattle.pk_lex.specs.Tokens.{IsToken, longest, Reads, nothing, past_white, past_token, token_of, IsLexed}
use Rattle.pk_typenames.specs.TypeNames.{IsMarked, AreMarked}
use Rattle.pk_ast.specs.declared.expressions.Identifier.{Identifier}
use Rattle.pk_grammar.specs.Languages.{identifier_of}
use Rattle.pk_grammar.specs.Names.{name_of, names_among, NamesAreTokens}
use Rattle.pk_text_laws.specs.Names.Laws.{StandsIn, AllStandIn, NamesStandInTexts}

-- the bytes of a word between others
word_of : (front word after : List ℕ) → slice_range (front ++ word ++ after) (length front) (length front + length word) ≡ word
word_of front word after =
    let less : length front + length word - length front ≡ length word = omega arith in
    let whole : front ++ word ++ after ≡ front ++ (word ++ after) = append_assoc front word after in
    let rest : drop (length front) (front ++ word ++ after) ≡ word ++ after = ap (drop (length front)) whole ∙ drop-append_seam front (word ++ after) in
    ap (λ (n : ℕ). take n (drop (length front) (front ++ word ++ after))) less ∙ (ap (take (length word)) rest ∙ take-append_seam word after)

before_of : (front word after : List ℕ) → take (length front) (front ++ word ++ after) ≡ front
before_of front word after = ap (take (length front)) (append_assoc front word after) ∙ take-append_seam front (word ++ after)

stands : (front word after : List ℕ) (k : Kind) → kind_of word ≡ Some kind.Name → StandsIn (front ++ word ++ after) (identifier_of (token_of front word k))
stands front word after k is = record {
  begins = omega arith;
  ends = omega (length-append (front ++ word) after, length-append front word, arith);
  is_name = ap kind_of (word_of front word after) ∙ is;
  place = ap (after_bytes start_of_text) (sym (before_of front word after));
}

-- the lexer gives no type names
abbrev NoTypeName : Option Kind → Type 0
NoTypeName None = Unit {0}
NoTypeName (Some kind.TypeName) = ⊥
NoTypeName (Some k) = Unit {0}

either : (b : Bool) (x y : Option Kind) → NoTypeName x → NoTypeName y → NoTypeName (if b then x else y)
either true x y h k = h
either false x y h k = k

no_word : (o : Option Keyword) → NoTypeName (Some (keyword_or_name o))
no_word None = tt
no_word (Some k) = tt

no_number : (word : List ℕ) → NoTypeName (number_kind word (constant_of word))
no_number word = elim (constant_of word) as (λ o. NoTypeName (number_kind word o)) [
  | None ↦ either (is_floating word) (Some kind.Floating) None tt tt
  | Some c ↦ tt
]

no_character : (o : Option ℤ) → NoTypeName (option_map kind.Character o)
no_character None = tt
no_character (Some v) = tt

no_punctuator : (o : Option Punctuator) → NoTypeName (option_map kind.Punctuator o)
no_punctuator None = tt
no_punctuator (Some p) = tt

no_type_name : (word : List ℕ) → NoTypeName (kind_of word)
unfolding kind_of
no_type_name word =
    either (is_name word) _ _ (no_word (keyword_of word)) (either (is_number word) _ _ (no_number word)
    (either (is_character word) _ _ (no_character (character_of word)) (either (is_string word) _ _ tt (no_punctuator (punctuator_of word)))))

-- a name at a token, and those behind it
one : (front word after : List ℕ) (k : Kind) (xs : List Identifier) → IsToken front word after k → AllStandIn (front ++ word ++ after) xs → AllStandIn (front ++ word ++ after) (name_of k (identifier_of (token_of front word k)) ++ xs)
one front word after kind.Name xs (longest _ _ _ is) h = (stands front word after kind.Name is, h)
one front word after kind.TypeName xs (longest _ _ _ is) h = absurd (subst NoTypeName is (no_type_name word))
one front word after (kind.Keyword x) xs t h = h
one front word after (kind.Constant x v) xs t h = h
one front word after (kind.Character v) xs t h = h
one front word after kind.StringLiteral xs t h = h
one front word after kind.Floating xs t h = h
one front word after kind.Directive xs t h = h
one front word after (kind.Punctuator p) xs t h = h
one front word after kind.End xs t h = h

none_at_end : (text : List ℕ) → AllStandIn text (names_among (token_of text [] kind.End ∷ []))
none_at_end text = tt

among : (text : List ℕ) {front rest end back : List ℕ} {ts : List Token} → Reads front rest ts end back → front ++ rest ≡ text → (more : List Token) → AllStandIn text (names_among more) → AllStandIn text (names_among (ts ++ more))
among text nothing is more h = h
among text (past_white {front = front} {piece = piece} {after = after} e w r) is more h =
    among text r (append_assoc front piece after ∙ (ap (λ (l : List ℕ). front ++ l) (sym e) ∙ is)) more h
among text (past_token {front = front} {word = word} {after = after} {k = k} {tokens = ts} e t r) is more h =
    let whole : front ++ word ++ after ≡ text = append_assoc front word after ∙ (ap (λ (l : List ℕ). front ++ l) (sym e) ∙ is) in
    let rest = among text r whole more h in
    let xs = names_among (ts ++ more) in
    subst (λ (l : List ℕ). AllStandIn l (name_of k (identifier_of (token_of front word k)) ++ xs)) whole (one front word after k xs t (subst (λ (l : List ℕ). AllStandIn l xs) (sym whole) rest))

lexed_stand : (text : List ℕ) (tokens : List Token) → IsLexed text tokens → AllStandIn text (names_among tokens)
lexed_stand text tokens (words, (e, r)) =
    let all : AllStandIn text (names_among (words ++ token_of text [] kind.End ∷ [])) = among text r refl (token_of text [] kind.End ∷ []) (none_at_end text) in
    subst (AllStandIn text) (sym (ap names_among e)) all

-- a type name stands where its name stood
one_marked : (text : List ℕ) (front : List Token) (t m : Token) (xs ys : List Identifier) → IsMarked text front t m → AllStandIn text (name_of t.kind (identifier_of t) ++ xs) → (AllStandIn text xs → AllStandIn text ys) →
    AllStandIn text (name_of m.kind (identifier_of m) ++ ys)
one_marked text front t m xs ys (inl h) all on =
    let was : AllStandIn text (identifier_of t ∷ xs) = subst (λ (k : Kind). AllStandIn text (name_of k (identifier_of t) ++ xs)) h.0.0 all in
    subst (λ (u : Token). AllStandIn text (name_of u.kind (identifier_of u) ++ ys)) (sym h.1) (was.0, on was.1)
one_marked text front t m xs ys (inr h) all on = subst (λ (u : Token). AllStandIn text (name_of u.kind (identifier_of u) ++ ys)) (sym h.1) (kept t.kind all)
  where
    kept : (k : Kind) → AllStandIn text (name_of k (identifier_of t) ++ xs) → AllStandIn text (name_of k (identifier_of t) ++ ys)
    kept kind.Name g = (g.0, on g.1)
    kept kind.TypeName g = (g.0, on g.1)
    kept k g = on g

marked_stand : (text : List ℕ) (front words tokens : List Token) → AreMarked text front words tokens → AllStandIn text (names_among words) → AllStandIn text (names_among tokens)
marked_stand text front [] [] m h = tt
marked_stand text front [] (u ∷ us) m h = absurd m
marked_stand text front (t ∷ ts) [] m h = absurd m
marked_stand text front (t ∷ ts) (u ∷ us) m h = one_marked text front t u (names_among ts) (names_among us) m.0 h (marked_stand text (front ++ t ∷ []) ts us m.1)

pub names_stand : (names : NamesAreTokens) → NamesStandInTexts
names_stand names text tokens trees read p =
    subst (AllStandIn text) (sym (names tokens trees p)) (marked_stand text [] read.words tokens read.marked (lexed_stand text read.words read.lexed))
