-- Call paths: the function that runs begin with, and the calls that lead from it.
use Rattle.std.specs.Prelude.{ℕ, ◌==◌, List, [], ◌∷◌, ◌++◌, codes, Option, Some, None}
use Rattle.std.specs.List.{slice_split, flat_map}
use Rattle.std.specs.Option.{option_map}
use Rattle.pk_ctypes.specs.declared.places.Pos.{Pos}
use Rattle.pk_ctypes.specs.Places.{pos_text}
use Rattle.pk_show.specs.Pieces.{◌>>=◌, cut, identifier_in, place_in}

-- the function that is called, and where
pub record CallOf : Type 0 where
  pub name : List ℕ
  pub at : Pos

pub record PathOf : Type 0 where
  pub entry : List ℕ
  pub calls : List CallOf

abbrev pub call_text : CallOf → List ℕ
call_text c = codes ">" ++ (c.name ++ (codes "@" ++ pos_text c.at))

abbrev pub path_text : PathOf → List ℕ
path_text p = p.entry ++ flat_map call_text p.calls

-- ---- as they are read

-- the place that a text is
unfoldable pub place_from : List ℕ → Option Pos
place_from text = do
  l ← cut (codes ":") text
  place_in l.0 l.1

abbrev pub called : List ℕ → Pos → CallOf
called name at = record { name = name; at = at }

unfoldable pub call_in : List ℕ → Option CallOf
call_in part = do
  n ← cut (codes "@") part
  l ← cut (codes ":") n.1
  name ← identifier_in n.0
  at ← place_in l.0 l.1
  Some (called name at)

abbrev pub calls_in : List (List ℕ) → Option (List CallOf)
calls_in [] = Some []
calls_in (part ∷ parts) = call_in part >>= (λ c. option_map (λ calls. c ∷ calls) (calls_in parts))

-- what stands between each two `>`
abbrev pub parts_of : List ℕ → List (List ℕ)
parts_of path = slice_split (λ b. b == 62) path

abbrev pub path_of : List ℕ → List CallOf → PathOf
path_of entry calls = record { entry = entry; calls = calls }

abbrev pub whole_in : List (List ℕ) → Option PathOf
whole_in [] = None
whole_in (part ∷ parts) = identifier_in part >>= (λ entry. option_map (path_of entry) (calls_in parts))

abbrev pub path_in : List ℕ → Option PathOf
path_in path = whole_in (parts_of path)
