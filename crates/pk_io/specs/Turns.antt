-- How many calls of a device gave or took a byte.
use Rattle.std.specs.Prelude.{ℕ, ◌+◌, ◌==◌, if◌then◌else◌, Ok, Err}
use Rattle.std.specs.declared.result.Result.{Result}

-- the count of turns after one more answer: `Ok` of a number of bytes above 0 is a turn
abbrev pub turns_after : {E : Type 0} → ℕ → Result ℕ E → ℕ
turns_after turns (Ok count) = if count == 0 then turns else turns + 1
turns_after turns (Err failure) = turns
