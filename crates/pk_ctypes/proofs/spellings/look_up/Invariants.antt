use Rattle.std.proofs.Common.{◌≡◌, map, drop}
use Rattle.pk_ctypes.specs.Spellings.{lookup}
use Rattle.pk_ctypes.proofs.spellings.look_up.Given as goal

abbrev pub invariant-loop-row : goal.invariant-loop-row
invariant-loop-row g l = lookup (map (λ row. (row.0.now, row.1)) (drop l.row-index l.table)) l.word ≡ lookup (map (λ row. (row.0.now, row.1)) l.table) l.word
