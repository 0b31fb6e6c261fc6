-- Which words begin with which bytes.
use Rattle.std.proofs.Common.{◌≡◌, ℕ, zero, suc, ◌+◌, ◌≤◌, ◌==◌, ◌⊎◌, inl, inr, Bool, true, false, cond, ◌&&◌, ◌||◌, is_some, Option, Some, None, MatchOption, List, [], ◌∷◌, length, take, refl, sym, ap, ◌∙◌, subst, arith, take_all}
use Rattle.std.specs.List.{list_all, take_while, prefix_len}
use Rattle.std.proofs.lemmas.List.Folds.{length-prefix_len}
use Rattle.std.proofs.lemmas.Bool.{or_cases, or_left, or_right, and_parts, both_ways, eqb-true, false_from_ne_true, not-true}
use Rattle.std.proofs.lemmas.Bool.Decides.{nat_tests}
use Rattle.std.specs.Option.{option_map}
use Rattle.pk_lex.specs.declared.token.Kind.{Kind}
use Rattle.pk_lex.specs.declared.token.Kind.TheVariants as kind
use Rattle.pk_lex.specs.Bytes.{is_white, is_letter, is_digit, is_part}
use Rattle.pk_lex.specs.Tables.{keyword_of, punctuator_of}
use Rattle.pk_lex.specs.Numbers.{is_rest_of_number, is_fraction, is_number, constant_of}
use Rattle.pk_lex.specs.Characters.{between_quotes, code_of, is_character, character_of, is_rest_of_string, is_string}
use Rattle.pk_lex.specs.Words.{is_name, is_word, IsLongest, BeginsNone}
use Rattle.pk_lex.specs.Kinds.{keyword_or_name, number_kind, kind_of}
use Rattle.pk_lex.proofs.Longest.{longer, run_longest, nothing_begins}
use Rattle.pk_lex.proofs.PunctuatorLemmas.{is_other_byte, is_sign_byte, punctuator_is_sign}

-- the forms of a word
data Form (w : List ℕ) : Type 0 where
  name : is_name w ≡ true → Form w
  number : is_number w ≡ true → Form w
  character : is_character w ≡ true → Form w
  string : is_string w ≡ true → Form w
  punctuator : is_some (punctuator_of w) ≡ true → Form w

form : (w : List ℕ) → is_word w ≡ true → Form w
unfolding is_word
form w h =
    elim (or_cases (is_name w || is_number w || is_character w || is_string w) (is_some (punctuator_of w)) h) [
      | inr e ↦ punctuator e
      | inl e ↦ elim (or_cases (is_name w || is_number w || is_character w) (is_string w) e) [
        | inr f ↦ string f
        | inl f ↦ elim (or_cases (is_name w || is_number w) (is_character w) f) [
          | inr g ↦ character g
          | inl g ↦ elim (or_cases (is_name w) (is_number w) g) [ inl k ↦ name k | inr k ↦ number k ]
        ]
      ]
    ]

word_of : (w : List ℕ) → Form w → is_word w ≡ true
unfolding is_word
word_of w (name e) = or_left _ _ (or_left _ _ (or_left _ _ (or_left _ _ e)))
word_of w (number e) = or_left _ _ (or_left _ _ (or_left _ _ (or_right _ _ e)))
word_of w (character e) = or_left _ _ (or_left _ _ (or_right _ _ e))
word_of w (string e) = or_left _ _ (or_right _ _ e)
word_of w (punctuator e) = or_right _ _ e

-- what the first byte of each form is
name_first : (b : ℕ) (w : List ℕ) → is_name (b ∷ w) ≡ true → is_letter b ≡ true
name_first b w h = (and_parts (is_letter b) (list_all is_part w) h).0

number_first : (b : ℕ) (w : List ℕ) → is_number (b ∷ w) ≡ true → (is_digit b ≡ true) ⊎ (b ≡ 46)
number_first b w h =
    elim (or_cases (is_digit b && is_rest_of_number b w) (b == 46 && is_fraction w) h) [
      | inl e ↦ inl (and_parts (is_digit b) (is_rest_of_number b w) e).0
      | inr e ↦ inr (eqb-true b 46 (and_parts (b == 46) (is_fraction w) e).0)
    ]

character_first : (b : ℕ) (w : List ℕ) → is_character (b ∷ w) ≡ true → b ≡ 39
unfolding is_character
character_first b w h =
    let s = and_parts _ (is_some (code_of (between_quotes (b ∷ w)))) h in
    sym (eqb-true 39 b (and_parts (39 == b) _ s.0).0)

string_first : (b : ℕ) (w : List ℕ) → is_string (b ∷ w) ≡ true → b ≡ 34
string_first b w h = eqb-true b 34 (and_parts (b == 34) (is_rest_of_string false w) h).0

sign_first : (b : ℕ) (w : List ℕ) → is_some (punctuator_of (b ∷ w)) ≡ true → is_sign_byte b ≡ true
sign_first b w h =
    let s = punctuator_is_sign (b ∷ w) h in
    let t = and_parts (list_all is_sign_byte (b ∷ w)) _ s in
    (and_parts (is_sign_byte b) (list_all is_sign_byte w) t.0).0

-- classes of bytes that exclude each other
letter_digit : (b : ℕ) → is_letter b ≡ true → is_digit b ≡ true → ⊥
letter_digit b h k = both_ways (is_digit b) (grind (arith, nat_tests)) k

other_sign : (b : ℕ) → is_other_byte b ≡ true → is_sign_byte b ≡ true → ⊥
other_sign b h k = both_ways (is_other_byte b) (not-true (is_other_byte b) k) h

letter_sign : (b : ℕ) → is_letter b ≡ true → is_sign_byte b ≡ true → ⊥
letter_sign b h = other_sign b (or_left (is_part b) _ (or_left (is_letter b) (is_digit b) h))

digit_sign : (b : ℕ) → is_digit b ≡ true → is_sign_byte b ≡ true → ⊥
digit_sign b h = other_sign b (or_left (is_part b) _ (or_right (is_letter b) (is_digit b) h))

is_not : (p : ℕ → Bool) (b c : ℕ) → b ≡ c → p c ≡ false → p b ≡ true → ⊥
is_not p b c e f h = both_ways (p b) (ap p e ∙ f) h

-- no word begins with white space or `#`
no_white_letter : (b : ℕ) → is_letter b ≡ true → is_white b ≡ false
no_white_letter b h = grind (arith, nat_tests)

no_white_digit : (b : ℕ) → is_digit b ≡ true → is_white b ≡ false
no_white_digit b h = grind (arith, nat_tests)

white_at : (b c : ℕ) → b ≡ c → is_white c ≡ false → is_white b ≡ false
white_at b c e h = ap is_white e ∙ h

pub word_not_white : (b : ℕ) (w : List ℕ) → is_word (b ∷ w) ≡ true → is_white b ≡ false
word_not_white b w h = by_form (form (b ∷ w) h)
  where
    by_form : Form (b ∷ w) → is_white b ≡ false
    by_form (name e) = no_white_letter b (name_first b w e)
    by_form (number e) = elim (number_first b w e) [ inl d ↦ no_white_digit b d | inr p ↦ white_at b 46 p refl ]
    by_form (character e) = white_at b 39 (character_first b w e) refl
    by_form (string e) = white_at b 34 (string_first b w e) refl
    by_form (punctuator e) =
        false_from_ne_true (is_white b)
        (λ t. other_sign b (or_right (is_part b) _ (or_right (b == 39) _ (or_right (b == 34) _ (or_right (b == 35) (is_white b) t)))) (sign_first b w e))

pub word_not_hash : (b : ℕ) (w : List ℕ) → is_word (b ∷ w) ≡ true → (b == 35) ≡ true → ⊥
word_not_hash b w h t = by_form (form (b ∷ w) h)
  where
    by_form : Form (b ∷ w) → ⊥
    by_form (name e) = is_not is_letter b 35 (eqb-true b 35 t) refl (name_first b w e)
    by_form (number e) = elim (number_first b w e) [ inl d ↦ is_not is_digit b 35 (eqb-true b 35 t) refl d | inr p ↦ let q = eqb-true b 35 t in omega (arith, p, q) ]
    by_form (character e) = let p = character_first b w e in let q = eqb-true b 35 t in omega (arith, p, q)
    by_form (string e) = let p = string_first b w e in let q = eqb-true b 35 t in omega (arith, p, q)
    by_form (punctuator e) = other_sign b (or_right (is_part b) _ (or_right (b == 39) _ (or_right (b == 34) _ (or_left (b == 35) (is_white b) t)))) (sign_first b w e)

-- after a letter only a name
pub only_name : (b : ℕ) (w : List ℕ) → is_letter b ≡ true → is_word (b ∷ w) ≡ true → is_name (b ∷ w) ≡ true
only_name b w l h = by_form (form (b ∷ w) h)
  where
    by_form : Form (b ∷ w) → is_name (b ∷ w) ≡ true
    by_form (name e) = e
    by_form (number e) = absurd (elim (number_first b w e) [ inl d ↦ letter_digit b l d | inr p ↦ is_not is_letter b 46 p refl l ])
    by_form (character e) = absurd (is_not is_letter b 39 (character_first b w e) refl l)
    by_form (string e) = absurd (is_not is_letter b 34 (string_first b w e) refl l)
    by_form (punctuator e) = absurd (letter_sign b l (sign_first b w e))

-- after a digit only a number
only_number : (b : ℕ) (w : List ℕ) → is_digit b ≡ true → is_word (b ∷ w) ≡ true → is_number (b ∷ w) ≡ true
only_number b w d h = by_form (form (b ∷ w) h)
  where
    by_form : Form (b ∷ w) → is_number (b ∷ w) ≡ true
    by_form (name e) = absurd (letter_digit b (name_first b w e) d)
    by_form (number e) = e
    by_form (character e) = absurd (is_not is_digit b 39 (character_first b w e) refl d)
    by_form (string e) = absurd (is_not is_digit b 34 (string_first b w e) refl d)
    by_form (punctuator e) = absurd (digit_sign b d (sign_first b w e))

-- after a point and a digit only a number
only_fraction : (b : ℕ) (w : List ℕ) → is_digit b ≡ true → is_word (46 ∷ b ∷ w) ≡ true → is_number (46 ∷ b ∷ w) ≡ true
only_fraction b w d h = by_form (form (46 ∷ b ∷ w) h)
  where
    by_form : Form (46 ∷ b ∷ w) → is_number (46 ∷ b ∷ w) ≡ true
    by_form (name e) = cc
    by_form (number e) = e
    by_form (character e) = absurd (let f = character_first 46 (b ∷ w) e in omega (arith, f))
    by_form (string e) = absurd (let f = string_first 46 (b ∷ w) e in omega (arith, f))
    by_form (punctuator e) =
        let s = punctuator_is_sign (46 ∷ b ∷ w) e in
        let t = and_parts (list_all is_sign_byte (46 ∷ b ∷ w)) _ s in
        let u = and_parts (is_sign_byte 46) (list_all is_sign_byte (b ∷ w)) t.0 in
        absurd (digit_sign b d (and_parts (is_sign_byte b) (list_all is_sign_byte w) u.1).0)

-- after a quote only a character constant
pub only_character : (b : ℕ) (w : List ℕ) → b ≡ 39 → is_word (b ∷ w) ≡ true → is_character (b ∷ w) ≡ true
only_character b w q h = by_form (form (b ∷ w) h)
  where
    by_form : Form (b ∷ w) → is_character (b ∷ w) ≡ true
    by_form (name e) = absurd (is_not is_letter b 39 q refl (name_first b w e))
    by_form (number e) = absurd (elim (number_first b w e) [ inl d ↦ is_not is_digit b 39 q refl d | inr p ↦ omega (arith, p, q) ])
    by_form (character e) = e
    by_form (string e) = absurd (let f = string_first b w e in omega (arith, f, q))
    by_form (punctuator e) = absurd (is_not is_sign_byte b 39 q refl (sign_first b w e))

-- after a double quote only a string
pub only_string : (b : ℕ) (w : List ℕ) → b ≡ 34 → is_word (b ∷ w) ≡ true → is_string (b ∷ w) ≡ true
only_string b w q h = by_form (form (b ∷ w) h)
  where
    by_form : Form (b ∷ w) → is_string (b ∷ w) ≡ true
    by_form (name e) = absurd (is_not is_letter b 34 q refl (name_first b w e))
    by_form (number e) = absurd (elim (number_first b w e) [ inl d ↦ is_not is_digit b 34 q refl d | inr p ↦ omega (arith, p, q) ])
    by_form (character e) = absurd (let f = character_first b w e in omega (arith, f, q))
    by_form (string e) = e
    by_form (punctuator e) = absurd (is_not is_sign_byte b 34 q refl (sign_first b w e))

-- a number begins
abbrev pub begins_number : List ℕ → Bool
begins_number text = is_number (take 1 text) || is_number (take 2 text)

-- the first bytes of a text are a number only where a number begins
pub number_begins : (text : List ℕ) (m : ℕ) → is_number (take m text) ≡ true → begins_number text ≡ true
number_begins [] zero h = cc
number_begins [] (suc m) h = cc
number_begins (a ∷ text) zero h = cc
number_begins (a ∷ text) (suc m) h =
    elim (or_cases (is_digit a && is_rest_of_number a (take m text)) (a == 46 && is_fraction (take m text)) h) [
      | inl e ↦ or_left _ _ (or_left (is_digit a && true) (a == 46 && false) (with_true (is_digit a) (and_parts (is_digit a) _ e).0))
      | inr e ↦ let p = and_parts (a == 46) (is_fraction (take m text)) e in or_right _ _ (fraction text m p.0 p.1)
    ]
  where
    with_true : (t : Bool) → t ≡ true → (t && true) ≡ true
    with_true true e = refl
    with_true false e = e

    both : (s t : Bool) → s ≡ true → t ≡ true → (s && t) ≡ true
    both true t e f = f
    both false t e f = cc

    fraction : (l : List ℕ) (m : ℕ) → (a == 46) ≡ true → is_fraction (take m l) ≡ true → is_number (take 2 (a ∷ l)) ≡ true
    fraction [] zero p h = cc
    fraction [] (suc m) p h = cc
    fraction (b ∷ l) zero p h = cc
    fraction (b ∷ l) (suc m) p h =
        or_right _ _ (both (a == 46) (is_digit b && true) p (with_true (is_digit b) (and_parts (is_digit b) (is_rest_of_number b (take m l)) h).0))

-- where a number begins, a word is a number or one byte
pub only_numbers : (text : List ℕ) (m : ℕ) → begins_number text ≡ true → is_word (take m text) ≡ true → (is_number (take m text) ≡ true) ⊎ (m ≤ 1)
only_numbers text zero n h = inr (omega arith)
only_numbers [] (suc m) n h = cc
only_numbers (a ∷ text) (suc m) n h =
    elim (or_cases (is_number (take 1 (a ∷ text))) (is_number (take 2 (a ∷ text))) n) [
      | inl e ↦ inl (digit_first (take 0 text) e)
      | inr e ↦ second text m e h
    ]
  where
    digit_first : (w : List ℕ) → is_number (a ∷ []) ≡ true → is_number (a ∷ take m text) ≡ true
    digit_first w e =
        elim (or_cases (is_digit a && true) (a == 46 && false) e) [
          | inl f ↦ only_number a (take m text) (and_parts (is_digit a) true f).0 h
          | inr f ↦ absurd (both_ways false refl (and_parts (a == 46) false f).1)
        ]

    second : (l : List ℕ) (m : ℕ) → is_number (take 2 (a ∷ l)) ≡ true → is_word (a ∷ take m l) ≡ true → (is_number (a ∷ take m l) ≡ true) ⊎ (suc m ≤ 1)
    second l zero e h = inr (omega arith)
    second [] (suc m) e h =
        elim (or_cases (is_digit a && true) (a == 46 && false) e) [
          | inl f ↦ inl (only_number a [] (and_parts (is_digit a) true f).0 h)
          | inr f ↦ absurd (both_ways false refl (and_parts (a == 46) false f).1)
        ]
    second (b ∷ l) (suc m) e h =
        elim (or_cases (is_digit a && is_rest_of_number a (b ∷ [])) (a == 46 && (is_digit b && true)) e) [
          | inl f ↦ inl (only_number a (b ∷ take m l) (and_parts (is_digit a) _ f).0 h)
          | inr f ↦
              let p = and_parts (a == 46) (is_digit b && true) f in
              let d = and_parts (is_digit b) true p.1 in
              let q : 46 ≡ a = sym (eqb-true a 46 p.0) in
              inl (subst (λ x. is_number (x ∷ b ∷ take m l) ≡ true) q (only_fraction b (take m l) d.0 (subst (λ x. is_word (x ∷ b ∷ take m l) ≡ true) (sym q) h)))
        ]

pub empty_is_no_word : is_word [] ≡ false
unfolding is_word is_character punctuator_of
empty_is_no_word = refl

-- anywhere else only a punctuator
pub only_punctuator : (b : ℕ) (rest : List ℕ) (m : ℕ) → is_letter b ≡ false → begins_number (b ∷ rest) ≡ false → (b ≡ 39 → ⊥) → (b ≡ 34 → ⊥) →
    is_word (take m (b ∷ rest)) ≡ true → is_some (punctuator_of (take m (b ∷ rest))) ≡ true
only_punctuator b rest zero l n q r h = absurd (both_ways (is_word []) empty_is_no_word h)
only_punctuator b rest (suc m) l n q r h = by_form (form (b ∷ take m rest) h)
  where
    by_form : Form (b ∷ take m rest) → is_some (punctuator_of (b ∷ take m rest)) ≡ true
    by_form (name e) = absurd (both_ways (is_letter b) l (name_first b (take m rest) e))
    by_form (number e) = absurd (both_ways (begins_number (b ∷ rest)) n (number_begins (b ∷ rest) (suc m) e))
    by_form (character e) = absurd (q (character_first b (take m rest) e))
    by_form (string e) = absurd (r (string_first b (take m rest) e))
    by_form (punctuator e) = e

-- the longest of a form is the longest word
pub longest_word : (p : List ℕ → Bool) (text : List ℕ) (n : ℕ) → ((w : List ℕ) → p w ≡ true → is_word w ≡ true) →
    ((m : ℕ) → is_word (take m text) ≡ true → p (take m text) ≡ true) → IsLongest p text n → IsLongest is_word text n
longest_word p text n up down l = record {
  fits = l.fits;
  is = up (take n text) l.is;
  most = λ m le h. l.most m le (down m h);
}

pub no_word : (p : List ℕ → Bool) (text : List ℕ) → ((m : ℕ) → is_word (take m text) ≡ true → p (take m text) ≡ true) → BeginsNone p text → BeginsNone is_word text
no_word p text down none m le h = none m le (down m h)

at_first : (P : List ℕ → Type 0) (b : ℕ) (rest : List ℕ) → (is_word [] ≡ true → P []) → ((w : List ℕ) → is_word (b ∷ w) ≡ true → P (b ∷ w)) → (m : ℕ) → is_word (take m (b ∷ rest)) ≡ true → P (take m (b ∷ rest))
at_first P b rest none more zero h = none h
at_first P b rest none more (suc m) h = more (take m rest) h

-- what holds of each word that begins with a byte holds of the first bytes that are a word
pub from_first : (p : List ℕ → Bool) (b : ℕ) (rest : List ℕ) → ((w : List ℕ) → is_word (b ∷ w) ≡ true → p (b ∷ w) ≡ true) → (m : ℕ) → is_word (take m (b ∷ rest)) ≡ true → p (take m (b ∷ rest)) ≡ true
from_first p b rest more = at_first (λ w. p w ≡ true) b rest (λ h. absurd (both_ways (is_word []) empty_is_no_word h)) more

pub longest_number : (text : List ℕ) (n : ℕ) → begins_number text ≡ true → IsLongest is_number text n → IsLongest is_word text n
longest_number text n b l = record {
  fits = l.fits;
  is = word_of (take n text) (number l.is);
  most = λ m le h. elim (only_numbers text m b h) [ inl e ↦ l.most m le e | inr e ↦ let f = positive n l.is in omega (arith, e, f) ];
}
  where
    positive : (n : ℕ) → is_number (take n text) ≡ true → 1 ≤ n
    positive zero h = cc
    positive (suc n) h = omega arith

pub none_at_end : (text : List ℕ) → text ≡ [] → BeginsNone is_word text
none_at_end text e = rw e (nothing_begins is_word empty_is_no_word)

module _ (text : List ℕ) (b : ℕ) (rest : List ℕ) (cut : text ≡ b ∷ rest) where
  down : (p : List ℕ → Bool) → ((w : List ℕ) → is_word (b ∷ w) ≡ true → p (b ∷ w) ≡ true) → (m : ℕ) → is_word (take m text) ≡ true → p (take m text) ≡ true
  down p more m h = rw cut (from_first p b rest more m (rw cut at h))

  pub word_is_name : is_letter b ≡ true → (n : ℕ) → n ≡ length (take_while is_part rest) → IsLongest is_word text (1 + n)
  word_is_name l n e =
      let s : 1 + n ≡ suc (prefix_len is_part rest) = omega (arith, e, length-prefix_len is_part rest) in
      longest_word is_name text (1 + n) (λ w h. word_of w (name h)) (down is_name (λ w h. only_name b w l h))
      (rw (cut, s) (longer is_name (list_all is_part) b (λ w. ap (λ t. t && list_all is_part w) l) rest (prefix_len is_part rest) (run_longest is_part rest)))

  pub word_is_character : b ≡ 39 → (o : Option ℕ) → MatchOption o (BeginsNone is_character text) (λ n. IsLongest is_character text n) →
      MatchOption o (BeginsNone is_word text) (λ n. IsLongest is_word text n)
  word_is_character q None h = no_word is_character text (down is_character (λ w k. only_character b w q k)) h
  word_is_character q (Some n) h = longest_word is_character text n (λ w k. word_of w (character k)) (down is_character (λ w k. only_character b w q k)) h

  pub word_is_string : b ≡ 34 → (o : Option ℕ) → MatchOption o (BeginsNone is_string text) (λ n. IsLongest is_string text n) →
      MatchOption o (BeginsNone is_word text) (λ n. IsLongest is_word text n)
  word_is_string q None h = no_word is_string text (down is_string (λ w k. only_string b w q k)) h
  word_is_string q (Some n) h = longest_word is_string text n (λ w k. word_of w (string k)) (down is_string (λ w k. only_string b w q k)) h

  only_signs : is_letter b ≡ false → begins_number text ≡ false → (b ≡ 39 → ⊥) → (b ≡ 34 → ⊥) → (m : ℕ) → is_word (take m text) ≡ true → is_some (punctuator_of (take m text)) ≡ true
  only_signs l n q r m h = rw cut (only_punctuator b rest m l (rw cut at n) q r (rw cut at h))

  pub word_is_punctuator : is_letter b ≡ false → begins_number text ≡ false → (b ≡ 39 → ⊥) → (b ≡ 34 → ⊥) → (o : Option ℕ) →
      MatchOption o (BeginsNone (λ w. is_some (punctuator_of w)) text) (λ n. IsLongest (λ w. is_some (punctuator_of w)) text n) →
      MatchOption o (BeginsNone is_word text) (λ n. IsLongest is_word text n)
  word_is_punctuator l n q r None h = no_word (λ w. is_some (punctuator_of w)) text (only_signs l n q r) h
  word_is_punctuator l n q r (Some k) h = longest_word (λ w. is_some (punctuator_of w)) text k (λ w e. word_of w (punctuator e)) (only_signs l n q r) h

-- the kind that the tests choose
abbrev chosen : List ℕ → Bool → Bool → Bool → Bool → Option Kind
chosen word is_name is_number is_character is_string =
    cond is_name (Some (keyword_or_name (keyword_of word)))
    (cond is_number (number_kind word (constant_of word))
    (cond is_character (option_map kind.Character (character_of word))
    (cond is_string (Some kind.StringLiteral) (option_map kind.Punctuator (punctuator_of word)))))

kind_is : (word : List ℕ) → kind_of word ≡ chosen word (is_name word) (is_number word) (is_character word) (is_string word)
unfolding kind_of
kind_is word = refl

-- the kind of a word of each form
module _ (word : List ℕ) (b : ℕ) (rest : List ℕ) (cut : word ≡ b ∷ rest) where
  no_name : is_letter b ≡ false → is_name word ≡ false
  no_name l = false_from_ne_true (is_name word) (λ h. both_ways (is_letter b) l (name_first b rest (rw cut at h)))

  no_number : begins_number word ≡ false → is_number word ≡ false
  no_number n =
      false_from_ne_true (is_number word)
      (λ h. both_ways (begins_number word) n (number_begins word (length word) (rw (take_all (length word) word (omega arith)) h)))

  not_character : (b ≡ 39 → ⊥) → is_character word ≡ false
  not_character n = false_from_ne_true (is_character word) (λ h. n (character_first b rest (rw cut at h)))

  not_string : (b ≡ 34 → ⊥) → is_string word ≡ false
  not_string n = false_from_ne_true (is_string word) (λ h. n (string_first b rest (rw cut at h)))

  a_number : begins_number word ≡ true → is_word word ≡ true → is_number word ≡ true
  a_number n h =
      elim (only_numbers word (length word) n (rw (take_all (length word) word (omega arith)) h)) [
        | inl e ↦ rw (take_all (length word) word (omega arith)) at e
        | inr e ↦ rw cut (of_one rest (let l = ap length cut in omega (arith, l, e)) (rw cut at n))
      ]
    where
      of_one : (l : List ℕ) → length l ≤ 0 → begins_number (b ∷ l) ≡ true → is_number (b ∷ l) ≡ true
      of_one [] le n = elim (or_cases (is_number (b ∷ [])) (is_number (b ∷ [])) n) [ inl e ↦ e | inr e ↦ e ]
      of_one (c ∷ l) le n = absurd (omega (arith, le))

  pub kind_of_name : is_letter b ≡ true → is_word word ≡ true → kind_of word ≡ Some (keyword_or_name (keyword_of word))
  kind_of_name l h =
      let e : is_name word ≡ true = rw cut (only_name b rest l (rw cut at h)) in
      kind_is word ∙ ap (λ t. chosen word t (is_number word) (is_character word) (is_string word)) e

  pub kind_of_a_number : is_letter b ≡ false → begins_number word ≡ true → is_word word ≡ true → kind_of word ≡ number_kind word (constant_of word)
  kind_of_a_number l n h =
      kind_is word
      ∙ ap (λ t. chosen word t (is_number word) (is_character word) (is_string word)) (no_name l)
      ∙ ap (λ t. chosen word false t (is_character word) (is_string word)) (a_number n h)

  pub kind_of_character : is_letter b ≡ false → begins_number word ≡ false → b ≡ 39 → is_word word ≡ true → kind_of word ≡ option_map kind.Character (character_of word)
  kind_of_character l n q h =
      let e : is_character word ≡ true = rw cut (only_character b rest q (rw cut at h)) in
      kind_is word
      ∙ ap (λ t. chosen word t (is_number word) (is_character word) (is_string word)) (no_name l)
      ∙ ap (λ t. chosen word false t (is_character word) (is_string word)) (no_number n)
      ∙ ap (λ t. chosen word false false t (is_string word)) e

  pub kind_of_string : is_letter b ≡ false → begins_number word ≡ false → (b ≡ 39 → ⊥) → b ≡ 34 → is_word word ≡ true → kind_of word ≡ Some kind.StringLiteral
  kind_of_string l n q r h =
      let e : is_string word ≡ true = rw cut (only_string b rest r (rw cut at h)) in
      kind_is word
      ∙ ap (λ t. chosen word t (is_number word) (is_character word) (is_string word)) (no_name l)
      ∙ ap (λ t. chosen word false t (is_character word) (is_string word)) (no_number n)
      ∙ ap (λ t. chosen word false false t (is_string word)) (not_character q)
      ∙ ap (chosen word false false false) e

  pub kind_of_punctuator : is_letter b ≡ false → begins_number word ≡ false → (b ≡ 39 → ⊥) → (b ≡ 34 → ⊥) → kind_of word ≡ option_map kind.Punctuator (punctuator_of word)
  kind_of_punctuator l n q r =
      kind_is word
      ∙ ap (λ t. chosen word t (is_number word) (is_character word) (is_string word)) (no_name l)
      ∙ ap (λ t. chosen word false t (is_character word) (is_string word)) (no_number n)
      ∙ ap (λ t. chosen word false false t (is_string word)) (not_character q)
      ∙ ap (chosen word false false false) (not_string r)

pub empty_is_none : (word : List ℕ) → word ≡ [] → is_word word ≡ true → ⊥
empty_is_none word e h = both_ways (is_word []) empty_is_no_word (rw e at h)
