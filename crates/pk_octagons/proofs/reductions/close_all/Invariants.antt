use Rattle.std.proofs.Common.{◌≡◌, drop}
use Rattle.pk_octagons.specs.Reduced.{closed_octagons}
use Rattle.pk_octagons.proofs.Closed.{behind}
use Rattle.pk_octagons.proofs.reductions.close_all.Given as goal

-- so many are closed, and the others come behind them
abbrev pub invariant-loop-p : goal.invariant-loop-p
invariant-loop-p l = behind l.out.items (closed_octagons (drop l.p l.packs) l.values (drop l.p l.all)) ≡ closed_octagons l.packs l.values l.all
