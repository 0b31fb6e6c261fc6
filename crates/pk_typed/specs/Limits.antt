-- Limits of the language that is analysed.
use Rattle.std.specs.Prelude.{ℕ}

-- the most elements of an array
abbrev pub length_limit : ℕ
length_limit = 1048576
