-- What holds of origins, whatever the text.
use Rattle.std.specs.Prelude.{◌≡◌, ℕ, ◌+◌, ◌<◌, ◌≤◌, List, Some, None}
use Rattle.pk_origin.specs.Markers.{MarkerOf}
use Rattle.pk_origin.specs.Origins.{marker_at, origin_of}

-- no line from i up to k, without k, tells where the next is from
abbrev pub IsSilent : List (List ℕ) → (i k : ℕ) → Type 0
IsSilent lines i k = (j : ℕ) → i ≤ j → j < k → marker_at lines j ≡ None

-- Behind a marker the lines up to the next one follow each other in its file; before the first they are the text's own.
pub record TellsOrigins : Type 0 where
  pub marked : (lines : List (List ℕ)) (j n : ℕ) (m : MarkerOf) →
      marker_at lines j ≡ Some m → IsSilent lines (j + 1) (j + 1 + n) →
      origin_of lines (j + 1 + n) ≡ record { marker = Some j; line = m.line + n }
  pub unmarked : (lines : List (List ℕ)) (k : ℕ) → IsSilent lines 0 k →
      origin_of lines k ≡ record { marker = None; line = k + 1 }
