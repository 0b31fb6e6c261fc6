-- The slots of a table's variables, of each of which a state has a value: each variable has one, and of one with at most eight numbers each number has its own.
use Rattle.std.specs.Prelude.{◌≡◌, ℕ, ◌+◌, ◌-◌, ◌<◌, nat_le, Bool, false, if◌then◌else◌, List, [], ◌∷◌, ◌++◌, length, map, take, drop, replicate, Option, Some, None}
use Rattle.std.specs.List.{flat_map}
use Rattle.pk_ctypes.specs.declared.types.IntType.{IntType}
use Rattle.pk_graph.specs.Kinds.{Kind, Kinds}
use Rattle.pk_graph.specs.Steps.{Numbers}
use Rattle.pk_graph.specs.Stores.{Stored}
use Rattle.pk_octagons.specs.Values.{type_at}
use Rattle.pk_state.specs.Layouts.{Layout, slot_of}

-- so many numbers have a slot each
abbrev pub are_few : ℕ → Bool
are_few n = nat_le n 8

-- ---- a table

-- whether a variable of so many elements has a slot for each; a scalar has one number
abbrev pub is_small : Option ℕ → Bool
is_small None = false
is_small (Some n) = are_few n

-- how many slots a variable has behind its own
abbrev pub further_count : Option ℕ → ℕ
further_count None = 0
further_count (Some n) = if are_few n then n - 1 else 0

abbrev pub further_types : Kind → List IntType
further_types k = replicate (further_count k.length) k.int_type

-- the variables' own slots, and behind them the others, variable by variable
abbrev pub slot_types : Kinds → List IntType
slot_types ks = map (λ (k : Kind). k.int_type) ks ++ flat_map further_types ks

-- of each variable where its further slots begin, if it is small
abbrev pub further_from : ℕ → Kinds → List (Option ℕ)
further_from at [] = []
further_from at (k ∷ ks) =
    (if is_small k.length then Some at else None) ∷ further_from (at + further_count k.length) ks

abbrev pub further_of : Kinds → List (Option ℕ)
further_of ks = further_from (length ks) ks

-- the n numbers of a variable have slots, of its type
pub record HasSlots (y : Layout) (x n : ℕ) : Type 0 where
  pub variable : x < length y.further
  pub own : x < length y.types
  pub there : (i : ℕ) → i < n → slot_of y x i < length y.types
  pub types : (i : ℕ) → i < n → type_at y.types (slot_of y x i) ≡ type_at y.types x

-- ---- a store

-- the numbers of a variable's own slot
abbrev pub own_slot : Numbers → Numbers
own_slot zs = if are_few (length zs) then take 1 zs else zs

abbrev pub further_slots : Numbers → List Numbers
further_slots zs = if are_few (length zs) then map (λ z. z ∷ []) (drop 1 zs) else []

-- a store slot by slot
abbrev pub spread : Stored → Stored
spread s = map own_slot s ++ flat_map further_slots s
