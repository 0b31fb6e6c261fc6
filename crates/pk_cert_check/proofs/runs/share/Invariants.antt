use Rattle.std.proofs.Common.{◌≡◌, ℕ, take, map}
use Rattle.std.specs.List.{slice_index_or}
use Rattle.std.specs.Arc.{arc_value}
use Rattle.pk_state.specs.Facts.{Stated}
use Rattle.pk_phases.specs.declared.equations.Cell.{Cell}
use Rattle.pk_cert_check.proofs.runs.share.Given as goal

abbrev pub invariant-loop-u : goal.invariant-loop-u
invariant-loop-u l = (d : Cell Stated) → map arc_value l.out.items ≡ map (λ (u : ℕ). slice_index_or (map arc_value l.cells) u d) (take l.u-index l.points)
