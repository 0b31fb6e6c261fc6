-- What the fields of a source in memory mean.
use Rattle.std.specs.Prelude.{◌<◌, ◌≤◌, drop, vec_len}
use Rattle.pk_io.specs.Memory.{MemInput}
use Rattle.pk_io.specs.declared.memory.MemSource.TheInside.{Inside}

abbrev pub input_of : Inside → MemInput
input_of s = record {
  left = drop s.at s.bytes.items;
  greatest = s.greatest;
  failing = s.failing.items;
  calls = s.calls;
  turns = s.turns;
  shortest = s.shortest;
  longest = s.longest;
  faults = s.faults;
}

-- the first `at` bytes were read, at least one by each turn, and a piece has room for one
pub record IsWithin (s : Inside) : Type 0 where
  pub at : s.at ≤ vec_len s.bytes
  pub turns : s.turns ≤ s.at
  pub greatest : 0 < s.greatest
