-- The names and places of the typed unit of a text.
use Rattle.std.specs.Prelude.{◌≡◌, ℕ, true, List}
use Rattle.pk_ctypes.specs.declared.places.Pos.{Pos}
use Rattle.pk_lex.specs.Words.{is_name}
use Rattle.pk_typed.specs.Trees.{UnitTree}
use Rattle.pk_calls.specs.declared.listings.CallPath.{CallPath}
use Rattle.pk_front.specs.Texts.{HasPaths, HasUnit}
use Rattle.pk_places_laws.specs.Names as names
use Rattle.pk_places_laws.specs.Places as places
use Rattle.pk_unit_texts.specs.Standing.{IsPlaceIn, IsBounded}

-- each of its names is one by the lexis (C99 6.4.2)
abbrev pub UnitsHaveNames : Type 0
UnitsHaveNames =
    (text : List ℕ) (u : UnitTree) → HasUnit text u → names.InUnit (λ name. is_name name ≡ true) u

-- so the function with which the runs of a text begin has such a name
abbrev pub EntriesAreNames : Type 0
EntriesAreNames =
    (text entry : List ℕ) (u : UnitTree) (paths : List CallPath) → HasPaths text entry u paths →
    is_name entry ≡ true

-- each of its places stands in the text
abbrev pub UnitsHavePlaces : Type 0
UnitsHavePlaces = (text : List ℕ) (u : UnitTree) → HasUnit text u → places.InUnit (IsPlaceIn text) u

-- and there the numbers of lines and of columns are no greater than the length of the text and 1
abbrev pub PlacesAreBounded : Type 0
PlacesAreBounded = (text : List ℕ) (at : Pos) → IsPlaceIn text at → IsBounded text at
