use Rattle.std.proofs.Common.{◌≡◌, ◌+◌, ◌≤◌, length, replicate, map}
use Rattle.std.specs.Arc.{arc_value}
use Rattle.pk_layout.specs.Layouts.{first_of}
use Rattle.pk_board.specs.Writing.{IsWriting}
use Rattle.pk_board.proofs.boards.Board.put_all.Given as goal

-- the cells that are left, and the slots that were written
abbrev pub invariant-loop-cell : goal.invariant-loop-cell
invariant-loop-cell g l = record {
  same : (l.seat.table_id ≡ l.initial.seat.table_id) × (l.seat.id ≡ l.initial.seat.id);
  at : l.slot ≡ first_of l.self.subject.wiring.layout l.e + (length l.cells.items + 1);
  within : l.slot ≤ first_of l.self.subject.wiring.layout (l.e + 1);
  equal : map arc_value l.cells.items ≡ replicate (length l.cells.items) (arc_value l.first);
  writing : IsWriting l.self.subject.wiring l.e (arc_value l.first) l.slot l.initial.seat.me.0 l.seat.me;
}

abbrev pub decreases-loop-cell : goal.decreases-loop-cell
decreases-loop-cell g l = goal.left-loop-cell g l
