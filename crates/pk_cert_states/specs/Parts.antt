-- The parts of a line, as they are read.
use Rattle.std.specs.Prelude.{◌≡◌, ◌⊎◌, ℕ, ◌+◌, ◌*◌, ◌<◌, ◌^◌, ℤ, pos, List, [], ◌∷◌, ◌++◌, map, length, take, slice_index_or, Option, Some, None}
use Rattle.pk_ctypes.specs.declared.types.IntType.{IntType}
use Rattle.pk_graph.specs.declared.graphs.Variable.{Variable}
use Rattle.pk_graph.specs.Graphs.{variable_view}
use Rattle.pk_graph.specs.Kinds.{Kinds}
use Rattle.pk_octmat.specs.Bounds.{IsNear}
use Rattle.pk_octmat.specs.Octagon.{Octagon, IsOctagon, bar, entry}
use Rattle.pk_value.specs.Known.{Known}
use Rattle.pk_octagons.specs.Values.{type_at, known_at, IsValue}
use Rattle.pk_state.specs.Layouts.{Layout}
use Rattle.pk_state.specs.Facts.{Facts, Stated}
use Rattle.pk_cert.specs.declared.rows.Symbol.{Symbol}
use Rattle.pk_cert.specs.declared.rows.Symbol.TheVariants.{Star, Number, Far}
use Rattle.pk_cert.specs.Rows.{kept}
use Rattle.pk_cert_states.specs.Lines.{own_pack, four_of, fours_at, symbols_in}

-- the kinds of these variables
abbrev pub kinds_in : List Variable → Kinds
kinds_in = map (λ (v : Variable). (variable_view v).kind)

-- ---- the order of a line

abbrev pub slot_at : List ℕ → ℕ → ℕ
slot_at slots p = slice_index_or slots p 0

-- each number below their count stands at one place
pub record IsOrder (slots : List ℕ) : Type 0 where
  pub below : (p : ℕ) → p < length slots → slot_at slots p < length slots
  pub place : (j : ℕ) → j < length slots → (p : ℕ) × (p < length slots) × (slot_at slots p ≡ j)
  pub once : (p q : ℕ) → p < length slots → q < length slots → slot_at slots p ≡ slot_at slots q → p ≡ q

-- the place of each
pub record ArePlaces (slots places : List ℕ) : Type 0 where
  pub size : length places ≡ length slots
  pub each : (p : ℕ) → p < length slots → slot_at places (slot_at slots p) ≡ p

-- ---- values

abbrev pub number_of : Symbol → Option ℤ
number_of Star = None
number_of (Number z) = Some z
number_of Far = None

-- a value of the type, of which these symbols are the first four numbers
pub record IsFirst (t : IntType) (symbols : List Symbol) (k : Known) : Type 0 where
  pub value : IsValue t k
  pub told : (rest : List Symbol) × (symbols ≡ map kept (four_of k) ++ rest)

-- a value of each slot's type
pub record AreIn (l : Layout) (vs : List Known) : Type 0 where
  pub size : length vs ≡ length l.types
  pub each : (j : ℕ) → j < length l.types → IsValue (type_at l.types j) (known_at vs j)

-- values of the slots, of which in this order these symbols are the first numbers
pub record AreFirst (l : Layout) (slots : List ℕ) (symbols : List Symbol) (vs : List Known) : Type 0 where
  pub values : AreIn l vs
  pub told : (rest : List Symbol) × (symbols ≡ map kept (fours_at slots vs) ++ rest)

-- The first symbols are the numbers of the values of the first p slots, and these are left.
pub record AreFilledTo (l : Layout) (slots : List ℕ) (symbols rest : List Symbol) (vs : List Known)
    (p : ℕ) : Type 0 where
  pub values : AreIn l vs
  pub told : symbols ≡ map kept (fours_at (take p slots) vs) ++ rest

-- the first symbols are the numbers of all values, and these are left
pub record AreFilled (l : Layout) (slots : List ℕ) (symbols rest : List Symbol) (vs : List Known) : Type 0 where
  pub values : AreIn l vs
  pub told : symbols ≡ map kept (fours_at slots vs) ++ rest

-- ---- bounds

-- the bound in a row and a column, in rows of d
abbrev pub bound_of : List Symbol → ℕ → ℕ → ℕ → Option ℤ
bound_of symbols d i j = number_of (slice_index_or symbols (i * d + j) Star)

-- It is none or within 2^66 of 0, that of the same difference from bar j to bar i, and 0 on the diagonal.
pub record IsBound (symbols : List Symbol) (d i j : ℕ) : Type 0 where
  pub known : slice_index_or symbols (i * d + j) Star ≡ kept (bound_of symbols d i j)
  pub near : IsNear (2 ^ 66) (bound_of symbols d i j)
  pub turned : bound_of symbols d i j ≡ bound_of symbols d (bar j) (bar i)
  pub zero : i ≡ j → bound_of symbols d i j ≡ Some (pos 0)

-- the place is on the diagonal, in a row before row i, or in that one before column j
abbrev pub IsPast : ℕ → ℕ → ℕ → ℕ → Type 0
IsPast i j a b = (a ≡ b) ⊎ ((a < i) ⊎ ((a ≡ i) × (b < j)))

-- at such places the bounds are those of f
pub record IsFilledTo (n : ℕ) (f : ℕ → ℕ → Option ℤ) (i j : ℕ) (m : Octagon) : Type 0 where
  pub vars : m.vars ≡ n
  pub each : (a b : ℕ) → a < 2 * n → b < 2 * n → IsPast i j a b → entry m a b ≡ f a b

-- the symbols are the bounds of an octagon over n variables
pub record AreBoundsOf (n : ℕ) (symbols : List Symbol) (m : Octagon) : Type 0 where
  pub vars : m.vars ≡ n
  pub octagon : IsOctagon m
  pub told : symbols ≡ map kept m.cells

-- ---- states

-- the state with these values and the octagon of which the symbols are the bounds
pub record IsBounded (l : Layout) (vs : List Known) (symbols : List Symbol) (s : Stated) : Type 0 where
  pub octagon : Octagon
  pub bounds : AreBoundsOf (length (own_pack l)) symbols octagon
  pub state : s ≡ record { layout = l; facts = Some (record { values = vs; octagons = octagon ∷ [] }) }

-- the state over the layout that has facts with these symbols in this order
pub record IsRead (slots : List ℕ) (l : Layout) (symbols : List Symbol) (s : Stated) : Type 0 where
  pub facts : Facts
  pub state : s ≡ record { layout = l; facts = Some facts }
  pub told : symbols ≡ map kept (symbols_in slots facts)

-- some run comes there, and something is known of each slot, and by one octagon
pub record HasFacts (l : Layout) (s : Stated) : Type 0 where
  pub layout : s.layout ≡ l
  pub facts : Facts
  pub is : s.facts ≡ Some facts
  pub size : length facts.values ≡ length l.types
  pub one : length facts.octagons ≡ 1
