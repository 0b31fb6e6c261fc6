-- What reads leave of the bytes that a source had.
use Rattle.std.specs.Prelude.{ℕ, List}
use Rattle.std.specs.declared.option.Option.{Option}
use Rattle.std.specs.Io.KnownBytes.{Consumes}

-- known bytes have lost some at their front
abbrev pub IsRest : Option (List ℕ) → Option (List ℕ) → Type 0
IsRest before now = (read : List ℕ) × Consumes before now read
