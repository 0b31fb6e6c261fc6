use Rattle.std.proofs.Common.{◌<◌, All, get_or, take}
use Rattle.pk_iterate.proofs.times.Times.is_up_to_date.Given as goal

-- what was read so far was changed before
abbrev pub invariant-loop-u : goal.invariant-loop-u
invariant-loop-u l = record {
  some : 0 < l.made;
  before : All (λ v. get_or l.self.changed.items v 0 < l.made) (take l.u-index l.reads);
}
