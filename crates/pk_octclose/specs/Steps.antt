-- How many steps a closing takes.
use Rattle.std.specs.Prelude.{ℕ, ◌+◌, ◌*◌}

-- the most that closing after one variable takes, of n: a step is one bound that is compared with another one or with 0, rounded or capped
abbrev pub most_steps : ℕ → ℕ
most_steps n = 64 * n * n + 64
