-- The lengths of the arrays that a graph's accesses are of, by their places.
use Rattle.std.specs.Prelude.{◌≡◌, ℕ, ◌==◌, nat_eq, if◌then◌else◌, List, fold, Option, Some, None}
use Rattle.std.specs.HashMap.{get}
use Rattle.pk_graph.specs.Accesses.{OperationOf, Index, Divisor, Negation, Result, Shift, Assertion, AccessOf}
use Rattle.pk_findings.specs.Lengths.{Lengths, place_number}

-- of an index, the length of its array, else what was known
abbrev pub length_or : Option ℕ → OperationOf → Option ℕ
length_or known (Index n i) = Some n
length_or known (Divisor a b) = known
length_or known (Negation t e) = known
length_or known (Result op t a b) = known
length_or known (Shift op t a b) = known
length_or known (Assertion e) = known

-- what is known of the place of this number, by one access more
abbrev pub length_by : (place : ℕ) → Option ℕ → AccessOf → Option ℕ
length_by place known a = if place_number a.site.at == place then length_or known a.operation else known

-- the length of the array that is accessed there
abbrev pub length_at : List AccessOf → (place : ℕ) → Option ℕ
length_at accesses place = fold (length_by place) None accesses

-- each length is that of the array that is accessed at its place, and each such array has one
abbrev pub AreLengths : List AccessOf → Lengths → Type 0
AreLengths accesses m = (place : ℕ) → get nat_eq m place ≡ length_at accesses place
