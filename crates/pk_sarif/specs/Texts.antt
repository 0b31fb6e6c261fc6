-- The text of values, one behind the other.
use Rattle.std.specs.Prelude.{ℕ, Bool, true, List, [], ◌∷◌, ◌++◌}
use Rattle.serde_json.specs.Data.{Data}
use Rattle.serde_json.specs.Written.{compact_text, comma_if}

-- values of an array; a comma stands before each but the first of all
abbrev pub listed : (later : Bool) → List Data → List ℕ
listed later [] = []
listed later (d ∷ ds) = comma_if later ++ (compact_text d ++ listed true ds)

-- whether a value stands there then
abbrev pub is_later : (later : Bool) → List Data → Bool
is_later later [] = later
is_later later (d ∷ ds) = true
