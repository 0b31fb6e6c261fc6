use Rattle.std.proofs.Common.{◌≡◌, ℕ, get_or, map}
use Rattle.std.specs.List.{range_with_len}
use Rattle.pk_peak.specs.declared.stretches.Stretch.{Stretch}
use Rattle.pk_peak.proofs.peaks.kept.Given as goal

abbrev pub invariant-loop-point : goal.invariant-loop-point
invariant-loop-point l = l.stretches.items ≡ map (λ (e : ℕ). let s : Stretch = record { from = get_or l.of e 0; to = get_or l.last (get_or l.of e 0) 0 } in s) (range_with_len 0 l.point)
