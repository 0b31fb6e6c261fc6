-- Stores of a graph: the numbers of each variable, by its number.
use Rattle.std.specs.Prelude.{◌≡◌, ℕ, ◌<◌, ℤ, List, [], length, slice_index_or, slice_set}
use Rattle.pk_ctypes.specs.Types.{InType}
use Rattle.pk_graph.specs.Kinds.{Kinds, type_at, count_at}
use Rattle.pk_graph.specs.Steps.{Numbers, number_at, Storing}

abbrev pub Stored : Type 0
Stored = List Numbers

abbrev pub numbers_of : Stored → ℕ → Numbers
numbers_of s x = slice_index_or s x []

-- a scalar's number
abbrev pub number_of : Stored → ℕ → ℤ
number_of s x = number_at (numbers_of s x) 0

abbrev pub storing : Storing ℕ Stored
storing = record { numbers = λ x s. numbers_of s x; with_numbers = λ x zs s. slice_set s x zs }

-- a store that agrees with a table of the variables: each has as many numbers as it should, all of its type
pub record IsStore (ks : Kinds) (s : Stored) : Type 0 where
  pub size : length s ≡ length ks
  pub counts : (x : ℕ) → x < length ks → length (numbers_of s x) ≡ count_at ks x
  pub fits : (x i : ℕ) → x < length ks → i < count_at ks x → InType (type_at ks x) (number_at (numbers_of s x) i)
