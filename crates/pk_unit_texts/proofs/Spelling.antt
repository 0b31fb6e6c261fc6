-- A name by the lexis is ASCII, so it is its own text.
use Rattle.std.proofs.Common.{◌≡◌, ℕ, zero, suc, ◌<◌, ◌⊎◌, inl, inr, Bool, true, false, List, [], ◌∷◌, Option, Some, None, refl, subst, arith, if◌then◌else◌}
use Rattle.std.specs.Prelude.{ℤ}
use Rattle.std.specs.List.{list_all}
use Rattle.std.specs.Option.{option_map}
use Rattle.std.specs.Str.{IsAscii}
use Rattle.std.specs.Str.Lossy.{utf8_lossy}
use Rattle.std.proofs.lemmas.Bool.{false≢true, and_parts, or_cases}
use Rattle.std.proofs.lemmas.Bool.Decides.{nat_tests}
use Rattle.std.proofs.lemmas.Str.{utf8_lossy-IsUtf8, IsUtf8-from_ascii}
use Rattle.std.proofs.lemmas.Str.Ascii.{IsAscii-nil}
use Rattle.pk_lex.specs.declared.token.Punctuator.{Punctuator}
use Rattle.pk_lex.specs.declared.token.Kind.{Kind}
use Rattle.pk_lex.specs.declared.token.Kind.TheVariants as kind
use Rattle.pk_lex.specs.Bytes.{is_letter, is_digit, is_part}
use Rattle.pk_lex.specs.Characters.{is_character, character_of, is_string}
use Rattle.pk_lex.specs.Kinds.{number_kind, kind_of}
use Rattle.pk_lex.specs.Numbers.{is_number, constant_of, is_floating}
use Rattle.pk_lex.specs.Tables.{punctuator_of}
use Rattle.pk_lex.specs.Words.{is_name}

-- ---- ASCII

letter_small : (b : ℕ) → is_letter b ≡ true → b < 128
letter_small b h = grind (arith, nat_tests)

digit_small : (b : ℕ) → is_digit b ≡ true → b < 128
digit_small b h = grind (arith, nat_tests)

part_small : (b : ℕ) → is_part b ≡ true → b < 128
part_small b h = by (or_cases (is_letter b) (is_digit b) h)
  where
    by : ((is_letter b ≡ true) ⊎ (is_digit b ≡ true)) → b < 128
    by (inl l) = letter_small b l
    by (inr d) = digit_small b d

parts_ascii : (bs : List ℕ) → list_all is_part bs ≡ true → IsAscii bs
parts_ascii [] h i = IsAscii-nil i
parts_ascii (b ∷ bs) h zero = part_small b (and_parts (is_part b) (list_all is_part bs) h).0
parts_ascii (b ∷ bs) h (suc i) = parts_ascii bs (and_parts (is_part b) (list_all is_part bs) h).1 i

name_ascii : (bs : List ℕ) → is_name bs ≡ true → IsAscii bs
name_ascii [] h i = absurd (false≢true h)
name_ascii (b ∷ bs) h zero = letter_small b (and_parts (is_letter b) (list_all is_part bs) h).0
name_ascii (b ∷ bs) h (suc i) = parts_ascii bs (and_parts (is_letter b) (list_all is_part bs) h).1 i

pub its_own_text : (bs : List ℕ) → is_name bs ≡ true → utf8_lossy bs ≡ bs
its_own_text bs h = utf8_lossy-IsUtf8 bs (IsUtf8-from_ascii bs (name_ascii bs h))

-- ---- a word whose kind is that of names

abbrev NoName : Option Kind → Type 0
NoName None = Unit {0}
NoName (Some kind.Name) = ⊥
NoName (Some kind.TypeName) = Unit {0}
NoName (Some (kind.Keyword k)) = Unit {0}
NoName (Some (kind.Constant t v)) = Unit {0}
NoName (Some (kind.Character v)) = Unit {0}
NoName (Some kind.StringLiteral) = Unit {0}
NoName (Some kind.Floating) = Unit {0}
NoName (Some kind.Directive) = Unit {0}
NoName (Some (kind.Punctuator p)) = Unit {0}
NoName (Some kind.End) = Unit {0}

either : (b : Bool) (x y : Option Kind) → NoName x → NoName y → NoName (if b then x else y)
either true x y h k = h
either false x y h k = k

number_is_none : (word : List ℕ) → NoName (number_kind word (constant_of word))
number_is_none word = elim (constant_of word) as (λ o. NoName (number_kind word o)) [
  | None ↦ either (is_floating word) (Some kind.Floating) None tt tt
  | Some c ↦ tt
]

character_is_none : (o : Option ℤ) → NoName (option_map kind.Character o)
character_is_none None = tt
character_is_none (Some v) = tt

punctuator_is_none : (o : Option Punctuator) → NoName (option_map kind.Punctuator o)
punctuator_is_none None = tt
punctuator_is_none (Some p) = tt

only_first : (b : Bool) (x y : Option Kind) → NoName y → (if b then x else y) ≡ Some kind.Name → b ≡ true
only_first true x y n h = refl
only_first false x y n h = absurd (subst NoName h n)

pub names_are_names : (word : List ℕ) → kind_of word ≡ Some kind.Name → is_name word ≡ true
unfolding kind_of
names_are_names word h =
    only_first (is_name word) _ _ (either (is_number word) _ _ (number_is_none word)
    (either (is_character word) _ _ (character_is_none (character_of word)) (either (is_string word) _ _ tt (punctuator_is_none (punctuator_of word))))) h
