-- The symbols of a state as a text, part by part.
use Rattle.std.specs.Prelude.{◌≡◌, ℕ, List, [], ◌∷◌, ◌++◌, map, length, Some, None}
use Rattle.std.specs.List.{concat}
use Rattle.pk_graph.specs.Kinds.{Kinds}
use Rattle.pk_value.specs.Known.{Known}
use Rattle.pk_octagons.specs.Values.{known_at}
use Rattle.pk_state.specs.Layouts.{Layout}
use Rattle.pk_state.specs.Facts.{Facts}
use Rattle.pk_cert_states.specs.Lines.{own_octagon, HasOne, line_slots, four_of}
use Rattle.pk_cert_lines.specs.declared.told.Told.{Told}
use Rattle.pk_cert_lines.specs.Symbols.{spaced}

-- the numbers of the values at these slots, each a text
abbrev pub texts_at : List ℕ → List Known → List (List ℕ)
texts_at slots vs = map (λ j. spaced (four_of (known_at vs j))) slots

-- these, and the octagon's bounds
unfoldable pub parts_in : List ℕ → Facts → List (List ℕ)
parts_in slots f = texts_at slots f.values ++ spaced (own_octagon f).cells ∷ []

abbrev pub sizes_of : List (List ℕ) → List ℕ
sizes_of = map (λ (part : List ℕ). length part)

-- the bytes are these parts, one behind the other, and the sizes are theirs
pub record AreParts (parts : List (List ℕ)) (bytes sizes : List ℕ) : Type 0 where
  pub joined : bytes ≡ concat parts
  pub counted : sizes ≡ sizes_of parts

-- The state is over the layout, with one octagon; where some run comes the values are its, and the text is that of its symbols in this order.
pub record IsToldIn (slots : List ℕ) (l : Layout) (t : Told) : Type 0 where
  pub layout : t.state.layout ≡ l
  pub one : HasOne l
  pub values : (f : Facts) → t.state.facts ≡ Some f → t.values.items ≡ f.values
  pub parts : (f : Facts) → t.state.facts ≡ Some f → AreParts (parts_in slots f) t.text.items t.sizes.items

-- it is told, and some run comes there
pub record IsTextOf (slots : List ℕ) (l : Layout) (t : Told) : Type 0 where
  pub told : IsToldIn slots l t
  pub some : t.state.facts ≡ None → ⊥

-- it is told in the order of a line
abbrev pub IsTold : Kinds → Layout → Told → Type 0
IsTold ks = IsToldIn (line_slots ks)
