-- The first wrong byte of a text is the first one with which no report goes on.
use Rattle.std.specs.Prelude.{◌≡◌, ℕ, ◌+◌, ◌<◌, ◌≤◌, List, ◌++◌, codes, length, take, Some}
use Rattle.std.specs.List.{flat_map}
use Rattle.pk_show.specs.declared.report.Row.{Row}
use Rattle.pk_show.specs.Reports.{ended_lines, report_in, first_wrong}
use Rattle.pk_wrong_byte.specs.Wrong.{first_wrong_byte}

-- some report begins with these bytes
abbrev pub BeginsReport : List ℕ → Type 0
BeginsReport bytes = (more : List ℕ) × (rows : List Row) × (report_in (bytes ++ more) ≡ Some rows)

-- where in a text a byte of a line stands: behind the lines before it, each with its newline
abbrev pub place_of : List (List ℕ) → (line byte : ℕ) → ℕ
place_of lines line byte = length (flat_map (λ l. l ++ codes "\n") (take line lines)) + byte

-- where in a text the first wrong byte stands: behind its last byte, where it ends too early
unfoldable pub wrong_place : List ℕ → ℕ
wrong_place text = place_of (ended_lines text) (first_wrong text) (first_wrong_byte text)

-- Some report begins with the bytes before the first wrong one, and none with that byte too.
pub record FirstWrongByteIsFirst : Type 0 where
  pub within : (text : List ℕ) → wrong_place text ≤ length text
  pub before : (text : List ℕ) → BeginsReport (take (wrong_place text) text)
  pub there : (text : List ℕ) → wrong_place text < length text → BeginsReport (take (wrong_place text + 1) text) → ⊥
