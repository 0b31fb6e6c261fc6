-- Where a place stands in a text.
use Rattle.std.specs.Prelude.{◌≡◌, ℕ, ◌+◌, ◌≤◌, List, length, take}
use Rattle.pk_ctypes.specs.declared.places.Pos.{Pos}
use Rattle.pk_ctypes.specs.Places.{start_of_text, after_bytes}

-- it is the place of a byte of the text, or that behind the last
pub record IsPlaceIn (text : List ℕ) (at : Pos) : Type 0 where
  pub before : ℕ
  pub within : before ≤ length text
  pub place : at ≡ after_bytes start_of_text (take before text)

-- neither its line nor its column is greater than the length of the text and 1
pub record IsBounded (text : List ℕ) (at : Pos) : Type 0 where
  pub line : at.line ≤ length text + 1
  pub column : at.column ≤ length text + 1
