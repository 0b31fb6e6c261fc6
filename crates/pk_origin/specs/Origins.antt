-- Where the lines of a preprocessed text come from.
use Rattle.std.specs.Prelude.{◌≡◌, ℕ, zero, suc, ◌+◌, ◌<◌, List, length, Bool, true, false, Option, Some, None, slice_index_or}
use Rattle.std.specs.Option.{option_map, option_and_then}
use Rattle.pk_origin.specs.declared.sources.Origin.{Origin}
use Rattle.pk_origin.specs.Texts.{line_at, is_open_at}
use Rattle.pk_origin.specs.Markers.{MarkerOf, marker_in}

abbrev pub marker_unless : (is_open : Bool) → List ℕ → Option MarkerOf
marker_unless true line = None
marker_unless false line = marker_in line

-- what line k says, where it is a line marker and stands in no comment
abbrev pub marker_at : List (List ℕ) → ℕ → Option MarkerOf
marker_at lines k = marker_unless (is_open_at lines k) (line_at lines k)

-- where the line behind line k comes from: what k says, or the next line of the same file
abbrev pub origin_behind : ℕ → Option MarkerOf → Origin → Origin
origin_behind k None before = record { marker = before.marker; line = before.line + 1 }
origin_behind k (Some m) before = record { marker = Some k; line = m.line }

abbrev pub first_origin : Origin
first_origin = record { marker = None; line = 1 }

-- where line k comes from: the line whose marker names the file, or none for the text itself, and the line's number there
abbrev pub origin_of : List (List ℕ) → ℕ → Origin
origin_of lines zero = first_origin
origin_of lines (suc k) = origin_behind k (marker_at lines k) (origin_of lines k)

-- an origin for each line
pub record AreOrigins (lines : List (List ℕ)) (origins : List Origin) : Type 0 where
  pub size : length origins ≡ length lines
  pub each : (k : ℕ) → k < length lines → slice_index_or origins k first_origin ≡ origin_of lines k

abbrev pub file_in : Option MarkerOf → Option (List ℕ)
file_in = option_map (λ m. m.file)

-- the name of the file that an origin tells
abbrev pub file_at : List (List ℕ) → Origin → Option (List ℕ)
file_at lines o = option_and_then (λ k. file_in (marker_in (line_at lines k))) o.marker
