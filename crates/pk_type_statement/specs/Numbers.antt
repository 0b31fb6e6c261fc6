-- A set of numbers by what is in it.
use Rattle.std.specs.Prelude.{ℤ, Bool}
use Rattle.std.specs.Ordering.{int_eq}
use Rattle.std.specs.HashSet.{contains}
use Rattle.pk_type_statement.specs.declared.cases.Numbers as declared_numbers

abbrev pub numbers_in : declared_numbers.Numbers → ℤ → Bool
numbers_in s n = contains int_eq s.numbers n
