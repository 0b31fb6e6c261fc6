-- The variables that a state speaks of.
use Rattle.std.specs.Prelude.{ℕ, zero, suc, ◌+◌, Bool, List, length, slice_index_or, Option, Some, None, is_some}
use Rattle.pk_ctypes.specs.declared.types.IntType.{IntType}
use Rattle.pk_octagons.specs.Packs.{ArePacks}

-- The type of each slot; the variables that each octagon is over; and of each variable whose numbers have a slot each, where those behind the first begin. Slot x is that of
-- variable x, of its first number alone where the others have their own.
pub record Layout : Type 0 where
  pub types : List IntType
  pub packs : List (List ℕ)
  pub further : List (Option ℕ)

abbrev pub further_at : Layout → ℕ → Option ℕ
further_at l x = slice_index_or l.further x None

-- whether each number of a variable has a slot
abbrev pub is_spread : Layout → ℕ → Bool
is_spread l x = is_some (further_at l x)

abbrev pub slot_from : Option ℕ → ℕ → ℕ → ℕ
slot_from None x i = x
slot_from (Some k) x zero = x
slot_from (Some k) x (suc i) = k + i

-- the slot of a variable's number i
abbrev pub slot_of : Layout → ℕ → ℕ → ℕ
slot_of l x i = slot_from (further_at l x) x i

-- the octagons' variables are there
abbrev pub IsLayout : Layout → Type 0
IsLayout l = ArePacks (length l.types) l.packs
