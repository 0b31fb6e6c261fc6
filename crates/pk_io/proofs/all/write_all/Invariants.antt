use Rattle.std.proofs.Common.{length, ◌+◌, ◌-◌, ◌≤◌, take}
use Rattle.std.specs.Io.KnownBytes.{Appends}
use Rattle.pk_io.proofs.all.write_all.Given as goal

abbrev pub invariant-loop-sent : goal.invariant-loop-sent
invariant-loop-sent g l = record {
  within : l.sent ≤ length l.bytes;
  written : Appends (g.K.Sink.written l.initial.out) (g.K.Sink.written l.out) (take l.sent l.bytes);
  faults : g.K.Sink.faults l.initial.out ≤ g.K.Sink.faults l.out;
  turns : g.K.Sink.turns l.out ≤ g.K.Sink.turns l.initial.out + l.sent;
}

abbrev pub decreases-loop-sent : goal.decreases-loop-sent
decreases-loop-sent g l = length l.bytes - l.sent
