-- What the fields of a sink in memory mean.
use Rattle.std.specs.Prelude.{◌<◌, ◌≤◌, vec_len}
use Rattle.pk_io.specs.Memory.{MemOutput}
use Rattle.pk_io.specs.declared.memory.MemSink.TheInside.{Inside}

abbrev pub output_of : Inside → MemOutput
output_of k = record {
  written = k.bytes.items;
  greatest = k.greatest;
  failing = k.failing.items;
  calls = k.calls;
  turns = k.turns;
  faults = k.faults;
}

-- each turn wrote at least one byte, and a piece has room for one
pub record IsCounted (k : Inside) : Type 0 where
  pub turns : k.turns ≤ vec_len k.bytes
  pub greatest : 0 < k.greatest
