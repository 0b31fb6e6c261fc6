use Rattle.std.proofs.Common.{◌≡◌, map, take}
use Rattle.std.specs.Arc.{arc_value}
use Rattle.pk_workers.specs.Working.{HasSame}
use Rattle.pk_workers.proofs.Items.{AreLast}
use Rattle.pk_workers.proofs.runs.new_part.Given as goal

-- the points so far
abbrev pub invariant-loop-point : goal.invariant-loop-point
invariant-loop-point g l = record {
  of_board : l.pass.table ≡ l.initial.pass.table;
  tokens : HasSame l.initial.pass.view l.pass.view;
  cells : AreLast (g.Y.System.meaning l.board.subject.system) l.board.subject.wiring.plan (take l.point-index l.point-items) (map arc_value l.cells.items);
}
