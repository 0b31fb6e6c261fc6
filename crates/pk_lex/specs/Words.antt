-- The words of a text (C99 6.4): names, numbers, character constants, strings and punctuators; and the longest at a place.
use Rattle.std.specs.Prelude.{ℕ, ◌≤◌, List, [], ◌∷◌, length, take, Bool, false, ◌&&◌, ◌||◌, is_some, IsTrue}
use Rattle.std.specs.List.{list_all}
use Rattle.pk_lex.specs.Bytes.{is_letter, is_part}
use Rattle.pk_lex.specs.Tables.{punctuator_of}
use Rattle.pk_lex.specs.Numbers.{is_number}
use Rattle.pk_lex.specs.Characters.{is_character, is_string}

-- a letter or `_`, then letters, `_` and digits
abbrev pub is_name : List ℕ → Bool
is_name [] = false
is_name (b ∷ bytes) = is_letter b && list_all is_part bytes

unfoldable pub is_word : List ℕ → Bool
is_word bytes =
    is_name bytes || is_number bytes || is_character bytes || is_string bytes || is_some (punctuator_of bytes)

-- of the first bytes of a text that are such, n are the most
pub record IsLongest (test : List ℕ → Bool) (text : List ℕ) (n : ℕ) : Type 0 where
  pub fits : n ≤ length text
  pub is : IsTrue (test (take n text))
  pub most : (m : ℕ) → m ≤ length text → IsTrue (test (take m text)) → m ≤ n

-- no first bytes of a text are such
abbrev pub BeginsNone : (List ℕ → Bool) → List ℕ → Type 0
BeginsNone test text = (n : ℕ) → n ≤ length text → IsTrue (test (take n text)) → ⊥
