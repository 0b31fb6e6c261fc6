-- Places of a text at their origins, and its lines.
use Rattle.std.specs.Prelude.{ℕ, zero, suc, ◌-◌, ◌==◌, Bool, true, false, if◌then◌else◌, List, [], ◌++◌, codes, length, map, take, nat_le, slice_index_or, Option, Some, None}
use Rattle.std.specs.Fmt.{decimal}
use Rattle.pk_ctypes.specs.declared.places.Pos.{Pos}
use Rattle.pk_ctypes.specs.Places.{start_of_text}
use Rattle.pk_origin.specs.declared.sources.Origin.{Origin}
use Rattle.pk_show.specs.Paths.{CallOf, PathOf}
use Rattle.pk_findings.specs.Texts.{TextOf, origin_at, file_of}

abbrev pub origin_text : TextOf → Origin → (column : ℕ) → List ℕ
origin_text t o column = file_of t o ++ (codes ":" ++ (decimal o.line ++ (codes ":" ++ decimal column)))

-- FILE:LINE:COLUMN
unfoldable pub place_text : TextOf → Pos → List ℕ
place_text t at = origin_text t (origin_at t at) at.column

-- FILE:LINE
unfoldable pub line_text : TextOf → Pos → List ℕ
line_text t at = file_of t (origin_at t at) ++ (codes ":" ++ decimal (origin_at t at).line)

-- without a column, where the column isn't that of the file
abbrev pub head_text : (has_column : Bool) → TextOf → Pos → List ℕ
head_text true t at = place_text t at
head_text false t at = line_text t at

-- ---- the line of a place, with a mark below it

-- a tab stays a tab, so that the mark stands below its byte
abbrev pub blank_for : ℕ → ℕ
blank_for b = if b == 9 then 9 else 32

abbrev pub blanks_before : List ℕ → (column : ℕ) → List ℕ
blanks_before line column = map blank_for (take (column - 1) line)

abbrev pub marked_line : List ℕ → (column : ℕ) → List ℕ
marked_line line column =
    codes "    " ++ (line ++ (codes "\n    " ++ (blanks_before line column ++ codes "^\n")))

-- a line of more than 200 bytes isn't shown
unfoldable pub excerpt_of : List ℕ → (column : ℕ) → List ℕ
excerpt_of line column = if nat_le (length line) 200 then marked_line line column else []

abbrev pub plain_line : List ℕ → List ℕ
plain_line line = codes "    " ++ (line ++ codes "\n")

unfoldable pub plain_of : List ℕ → List ℕ
plain_of line = if nat_le (length line) 200 then plain_line line else []

-- Of a line that isn't the file's own up to the mark, as behind a macro, the file's stands above it.
abbrev pub expanded_of : (is_own : Bool) → (own line : List ℕ) → (column : ℕ) → List ℕ
expanded_of true own line column = excerpt_of own column
expanded_of false own line column = plain_of own ++ excerpt_of line column

abbrev pub excerpt_with : (is_own : Bool) → Option (List ℕ) → (line : List ℕ) → (column : ℕ) → List ℕ
excerpt_with is_own None line column = excerpt_of line column
excerpt_with is_own (Some own) line column = expanded_of is_own own line column

-- ---- call paths

abbrev pub no_call : CallOf
no_call = record { name = []; at = start_of_text }

abbrev pub call_at : PathOf → ℕ → CallOf
call_at p k = slice_index_or p.calls k no_call

-- the function that runs behind so many calls
abbrev pub function_at : PathOf → ℕ → List ℕ
function_at p zero = p.entry
function_at p (suc k) = (call_at p k).name

abbrev pub caller_text : TextOf → PathOf → ℕ → List ℕ
caller_text t p k =
    codes ", called from " ++ (function_at p k ++ (codes " (" ++ (place_text t (call_at p k).at ++ codes ")")))

-- so many calls, the last first
abbrev pub callers_text : TextOf → PathOf → ℕ → List ℕ
callers_text t p zero = []
callers_text t p (suc k) = caller_text t p k ++ callers_text t p k

-- the function that runs, and the calls that lead to it, the last first
unfoldable pub path_text : TextOf → PathOf → List ℕ
path_text t p = codes "    in " ++ (function_at p (length p.calls) ++ callers_text t p (length p.calls))
