-- The start state: what is known of each variable when a run begins.
use Rattle.std.specs.Prelude.{ℕ, suc, Bool, nat_lt, if◌then◌else◌, ℤ, pos, List, [], ◌∷◌, ◌++◌, map, length, slice_index_or}
use Rattle.std.specs.List.{flat_map, range_with_len}
use Rattle.pk_ctypes.specs.declared.types.IntType.{IntType}
use Rattle.pk_graph.specs.Kinds.{count_of}
use Rattle.pk_graph.specs.Graphs.{VariableOf, StartOf, any_start, number_start, GraphOf}
use Rattle.pk_value.specs.Known.{Known, any_of, exactly, joined}
use Rattle.pk_octagons.specs.Values.{IsValue}
use Rattle.pk_octagons.specs.Octagons.{top_octagons}
use Rattle.pk_state.specs.Layouts.{Layout}
use Rattle.pk_state.specs.Facts.{Facts}
use Rattle.pk_transfer.specs.Slots.{is_small, further_count}

abbrev pub joined_with : Known → List ℤ → Known
joined_with k [] = k
joined_with k (z ∷ zs) = joined_with (joined k (exactly z)) zs

-- the join of these numbers, and of 0 where there are fewer than the variable has
abbrev pub known_of_numbers : (short : Bool) → List ℤ → Known
known_of_numbers short [] = exactly (pos 0)
known_of_numbers short (z ∷ zs) =
    if short then joined (joined_with (exactly z) zs) (exactly (pos 0)) else joined_with (exactly z) zs

abbrev pub known_of_start : VariableOf → StartOf → Known
known_of_start x any_start = any_of x.kind.int_type
known_of_start x (number_start zs) = known_of_numbers (nat_lt (length zs) (count_of x.kind.length)) zs

abbrev pub start_known : VariableOf → Known
start_known x = known_of_start x x.start

-- of number i of a variable
abbrev pub known_of_number : VariableOf → StartOf → ℕ → Known
known_of_number x any_start i = any_of x.kind.int_type
known_of_number x (number_start zs) i = exactly (slice_index_or zs i (pos 0))

-- of a variable's own slot, and of those behind it
abbrev pub own_known : VariableOf → Known
own_known x = if is_small x.kind.length then known_of_number x x.start 0 else start_known x

abbrev pub further_known : VariableOf → List Known
further_known x = map (λ i. known_of_number x x.start (suc i)) (range_with_len 0 (further_count x.kind.length))

abbrev pub start_values : List VariableOf → List Known
start_values xs = map own_known xs ++ flat_map further_known xs

abbrev pub start_facts : GraphOf → Layout → Facts
start_facts g l = record { values = start_values g.variables; octagons = top_octagons l.packs }

-- values of these types, one by one
abbrev pub AreTyped : List Known → List IntType → Type 0
AreTyped [] [] = Unit {0}
AreTyped [] (t ∷ ts) = ⊥
AreTyped (k ∷ ks) [] = ⊥
AreTyped (k ∷ ks) (t ∷ ts) = IsValue t k × AreTyped ks ts
