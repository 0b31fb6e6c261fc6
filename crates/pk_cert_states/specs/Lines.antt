-- What the lines of a certificate say of a graph's variables and of the one octagon over them.
use Rattle.std.specs.Prelude.{◌≡◌, ◌+◌, ◌*◌, ℕ, suc, ℤ, List, [], ◌∷◌, ◌++◌, length, Option, Some, None}
use Rattle.std.specs.List.{flat_map, range_with_len}
use Rattle.pk_graph.specs.Kinds.{Kinds}
use Rattle.pk_value.specs.Known.{Known}
use Rattle.pk_octmat.specs.Octagon.{Octagon}
use Rattle.pk_octagons.specs.Packs.{pack_at}
use Rattle.pk_octagons.specs.Values.{known_at}
use Rattle.pk_octagons.specs.Octagons.{octagon_at}
use Rattle.pk_state.specs.Layouts.{Layout}
use Rattle.pk_state.specs.Facts.{Facts, AreFactsIf}
use Rattle.pk_transfer.specs.Slots.{further_count}
use Rattle.pk_cert.specs.declared.rows.Shape.{Shape}
use Rattle.pk_cert.specs.Rows.{Line}

-- the one octagon of facts, and its variables
abbrev pub own_octagon : Facts → Octagon
own_octagon f = octagon_at f.octagons 0

abbrev pub own_pack : Layout → List ℕ
own_pack l = pack_at l.packs 0

-- there is just one
abbrev pub HasOne : Layout → Type 0
HasOne l = l.packs ≡ own_pack l ∷ []

-- the slot of variable x, if it is a scalar
abbrev pub scalar_slot : Option ℕ → ℕ → List ℕ
scalar_slot None x = x ∷ []
scalar_slot (Some n) x = []

-- the slots of variable x, if it is an array: its own, and the further ones, which begin at j
abbrev pub array_slots : Option ℕ → ℕ → ℕ → List ℕ
array_slots None x j = []
array_slots (Some n) x j = x ∷ range_with_len j (further_count (Some n))

-- the scalars' slots, from variable x on
abbrev pub scalars_from : ℕ → Kinds → List ℕ
scalars_from x [] = []
scalars_from x (k ∷ ks) = scalar_slot k.length x ++ scalars_from (suc x) ks

-- the arrays', from variable x on, the further ones of which begin at j
abbrev pub arrays_from : ℕ → ℕ → Kinds → List ℕ
arrays_from x j [] = []
arrays_from x j (k ∷ ks) = array_slots k.length x j ++ arrays_from (suc x) (j + further_count k.length) ks

-- the slots in the order of a line: the scalars', and those of each array by element
unfoldable pub line_slots : Kinds → List ℕ
line_slots ks = scalars_from 0 ks ++ arrays_from 0 (length ks) ks

-- `lo hi m r`
abbrev pub four_of : Known → List (Option ℤ)
four_of k = Some k.range.lo ∷ Some k.range.hi ∷ Some k.class.m ∷ Some k.class.r ∷ []

-- the numbers of the values at these slots
abbrev pub fours_at : List ℕ → List Known → List (Option ℤ)
fours_at slots vs = flat_map (λ j. four_of (known_at vs j)) slots

-- the numbers of the values in this order, and the octagon's bounds row by row
abbrev pub symbols_in : List ℕ → Facts → List (Option ℤ)
symbols_in slots f = fours_at slots f.values ++ (own_octagon f).cells

abbrev pub line_in : List ℕ → Option Facts → Line
line_in slots None = None
line_in slots (Some f) = Some (symbols_in slots f)

abbrev pub symbols_of : Kinds → Facts → List (Option ℤ)
symbols_of ks = symbols_in (line_slots ks)

abbrev pub line_of : Kinds → Option Facts → Line
line_of ks = line_in (line_slots ks)

-- how many numbers and how many bounds a line has
abbrev pub shape_of : Kinds → Layout → Shape
shape_of ks l = record {
  numbers = 4 * length (line_slots ks);
  bounds = 2 * length (own_pack l) * (2 * length (own_pack l));
}

-- the line is that of facts of the layout, or `bot`
abbrev pub IsState : Kinds → Layout → Line → Type 0
IsState ks l line = (f : Option Facts) × AreFactsIf l f × (line ≡ line_of ks f)
