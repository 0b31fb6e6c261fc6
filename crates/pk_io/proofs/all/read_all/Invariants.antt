use Rattle.std.proofs.Common.{◌≡◌, ◌<◌, ◌≤◌, min, max, vec_len, ◌+◌, ◌-◌}
use Rattle.std.specs.Io.KnownBytes.{Consumes}
use Rattle.pk_io.proofs.all.read_all.Given as goal

abbrev pub invariant-loop-buffer : goal.invariant-loop-buffer
invariant-loop-buffer g l = record {
  read : Consumes (g.S.Source.left l.initial.src) (g.S.Source.left l.src) l.bytes.items;
  faults : g.S.Source.faults l.initial.src ≤ g.S.Source.faults l.src;
  each_gave : g.S.Source.turns l.src ≤ g.S.Source.turns l.initial.src + vec_len l.bytes;
  few : g.S.Source.turns l.src ≤ g.S.Source.turns l.initial.src + l.limit + 1;
  shortest : min (g.S.Source.shortest l.src) 4096 ≡ min (g.S.Source.shortest l.initial.src) 4096;
  longest : max (g.S.Source.longest l.src) 4096 ≡ max (g.S.Source.longest l.initial.src) 4096;
  lent : 0 < vec_len l.bytes → (g.S.Source.shortest l.src ≤ 4096) × (4096 ≤ g.S.Source.longest l.src);
}

abbrev pub decreases-loop-buffer : goal.decreases-loop-buffer
decreases-loop-buffer g l = l.limit + 1 - vec_len l.bytes
