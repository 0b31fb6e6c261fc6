-- What the rows of scopes stand for: each its object, before the scope behind it, which is of the file or of an earlier row.
use Rattle.std.specs.Prelude.{◌≡◌, ℕ, zero, suc, ◌<◌, ◌≤◌, List, [], ◌∷◌, length, get_or, slice_get, Option, Some, None}
use Rattle.pk_meaning.specs.Objects.{Scope}
use Rattle.pk_runner_frame.specs.declared.works.Scope as code_scope
use Rattle.pk_runner_frame.specs.declared.works.Scope.TheVariants as scopes
use Rattle.pk_runner_frame.specs.Frames.{Reading, object_in, scope_in}
use Rattle.pk_runner_state.specs.declared.tables.Row.{Row}

-- how many rows a scope needs
abbrev pub rows_of_scope : code_scope.Scope → ℕ
rows_of_scope (scopes.File n) = 0
rows_of_scope (scopes.Row i) = suc i

abbrev pub IsOrderly : List Row → Type 0
IsOrderly rows = (i : ℕ) (r : Row) → i < length rows → get_or rows i r ≡ r → rows_of_scope r.parent ≤ i

abbrev pub by_row : Option Row → Reading → Scope
by_row None s = []
by_row (Some r) s = object_in r.object ∷ scope_in s r.parent

-- through at most so many rows
abbrev pub read_through : ℕ → List Row → ℕ → Scope
read_through zero rows i = []
read_through (suc n) rows i = by_row (slice_get rows i) (read_through n rows)

-- the reading of orderly rows
unfoldable pub reading_of : List Row → ℕ → Scope
reading_of rows i = read_through (suc i) rows i
