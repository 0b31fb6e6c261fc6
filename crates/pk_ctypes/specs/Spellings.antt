-- Tables of spellings.
use Rattle.std.specs.Prelude.{ℕ, List, [], ◌∷◌, Option, Some, None, if◌then◌else◌}
use Rattle.std.specs.Str.{bytes_eq}

-- what stands beside a spelling in a table
abbrev pub lookup : {A : Type 0} → List (List ℕ × A) → List ℕ → Option A
lookup [] word = None
lookup (row ∷ rows) word = if bytes_eq row.0 word then Some row.1 else lookup rows word
