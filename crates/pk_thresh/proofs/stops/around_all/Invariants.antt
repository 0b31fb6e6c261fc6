use Rattle.std.proofs.Common.{◌≡◌, take}
use Rattle.pk_thresh.specs.Thresholds.{numbers_around}
use Rattle.pk_thresh.proofs.stops.around_all.Given as goal

abbrev pub invariant-loop-constant : goal.invariant-loop-constant
invariant-loop-constant l = l.all.items ≡ numbers_around (take l.constant-index l.constants)
