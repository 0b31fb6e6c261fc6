-- The symbols of a line, as they are written.
use Rattle.std.specs.Prelude.{ℕ, ℤ, List, [], ◌∷◌, ◌++◌, Option, Some, None}
use Rattle.std.specs.List.{flat_map}
use Rattle.pk_value.specs.Known.{Known}
use Rattle.pk_state.specs.Facts.{Facts}
use Rattle.pk_cert.specs.Rows.{symbol_text}
use Rattle.pk_cert_states.specs.Lines.{own_octagon, four_of}

-- symbols with a space behind each
abbrev pub spaced : List (Option ℤ) → List ℕ
spaced = flat_map (λ (z : Option ℤ). symbol_text z ++ 32 ∷ [])

-- what is known of each slot, and the octagon's bounds; nothing where no run comes
abbrev pub values_in : Option Facts → List Known
values_in None = []
values_in (Some f) = f.values

abbrev pub cells_in : Option Facts → List (Option ℤ)
cells_in None = []
cells_in (Some f) = (own_octagon f).cells

-- the numbers of a value, if there is one
abbrev pub four_in : Option Known → List (Option ℤ)
four_in None = []
four_in (Some k) = four_of k
