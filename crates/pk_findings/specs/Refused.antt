-- A text that has no report: what was said in its place.
use Rattle.std.specs.Prelude.{◌≡◌, ℕ, ◌+◌, ◌-◌, ◌==◌, not, if◌then◌else◌, List, [], codes, length, take, nat_lt, slice_index_or, Option, Some, None}
use Rattle.std.specs.List.{slice_split, take_while}
use Rattle.std.specs.Option.{option_map}
use Rattle.pk_ctypes.specs.declared.places.Pos.{Pos}
use Rattle.pk_lex.specs.Bytes.{same}
use Rattle.pk_show.specs.Pieces.{strip}
use Rattle.pk_show.specs.Paths.{place_from}
use Rattle.pk_findings.specs.Texts.{TextOf, IsText}

pub record RefusedOf : Type 0 where
  pub text : TextOf
  pub said : List ℕ
  pub at : Option Pos

-- what stands between blanks
abbrev pub words_of : List ℕ → List (List ℕ)
words_of said = slice_split (λ b. b == 32) said

abbrev pub word_at : List (List ℕ) → ℕ → List ℕ
word_at words k = slice_index_or words k []

-- the place that the last words tell, as in `unsupported struct at 3:1`
unfoldable pub place_of : List (List ℕ) → Option Pos
place_of words =
    if nat_lt (length words) 2 then None else
    (if same (word_at words (length words - 2)) (codes "at") then place_from (word_at words (length words - 1)) else
    None)

-- what was said, without that place
abbrev pub without_place : List ℕ → List (List ℕ) → Option Pos → List ℕ
without_place said words None = said
without_place said words (Some at) = take (length said - (length (word_at words (length words - 1)) + 4)) said

-- a text of this name and these bytes, about which this was said
pub record IsRefused (name bytes said : List ℕ) (r : RefusedOf) : Type 0 where
  pub text : IsText name bytes r.text
  pub at : r.at ≡ place_of (words_of said)
  pub told : r.said ≡ without_place said (words_of said) r.at

-- what `pikos` says where it writes no report: a line that begins with its name
abbrev pub said_in : List ℕ → Option (List ℕ)
said_in answer = option_map (take_while (λ b. not (b == 10))) (strip (codes "pikos: ") answer)

-- a text that has no report, where the answer says so
abbrev pub IsRefusal : (name bytes answer : List ℕ) → Option RefusedOf → Type 0
IsRefusal name bytes answer None = said_in answer ≡ None
IsRefusal name bytes answer (Some r) = (said : List ℕ) × (said_in answer ≡ Some said) × IsRefused name bytes said r
