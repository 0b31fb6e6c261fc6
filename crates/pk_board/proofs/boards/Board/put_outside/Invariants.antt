use Rattle.std.proofs.Common.{◌≡◌, ◌+◌, ◌≤◌, All, length}
use Rattle.std.specs.Arc.{arc_value}
use Rattle.pk_layout.specs.Layouts.{first_of}
use Rattle.pk_board.specs.Emptying.{HasTaken, AreLeft}
use Rattle.pk_board.proofs.Emptying_slots.{ArePut}
use Rattle.pk_board.proofs.boards.Board.put_outside.Given as goal

-- the cells that are left, and the slots that were looked at
abbrev pub invariant-loop-cell : goal.invariant-loop-cell
invariant-loop-cell g l = record {
  same : (l.seat.table_id ≡ l.initial.seat.table_id) × (l.seat.id ≡ l.initial.seat.id);
  at : l.slot ≡ first_of l.self.subject.wiring.layout l.last + (length l.cells.items + 1);
  within : l.slot ≤ first_of l.self.subject.wiring.layout (l.last + 1);
  taken : HasTaken l.initial.seat.me l.seat.me;
  equal : (c : g.row.Y-Cell.Denot) → All (λ x. arc_value x ≡ c) l.fn.further.items → All (λ x. arc_value x ≡ c) l.cells.items;
  left : (c : g.row.Y-Cell.Denot) (part : g.row.Y-Part.Denot) → All (λ x. arc_value x ≡ c) l.fn.further.items → AreLeft l.self.subject.wiring l.last c part l.seat.me;
  put : ArePut l.self.subject.wiring l.last l.slot l.seat.me;
}

abbrev pub decreases-loop-cell : goal.decreases-loop-cell
decreases-loop-cell g l = goal.left-loop-cell g l
