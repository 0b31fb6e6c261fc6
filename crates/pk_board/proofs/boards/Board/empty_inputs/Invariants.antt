use Rattle.std.proofs.Common.{◌≡◌}
use Rattle.pk_board.specs.Emptying.{HasTaken, AreLeft, HasInputs}
use Rattle.pk_board.proofs.boards.Board.empty_inputs.Given as goal

-- the inputs so far
abbrev pub invariant-loop-place : goal.invariant-loop-place
invariant-loop-place g l = record {
  same : (l.seat.table_id ≡ l.initial.seat.table_id) × (l.seat.id ≡ l.initial.seat.id);
  taken : HasTaken l.initial.seat.me l.seat.me;
  left : (c : g.row.Y-Cell.Denot) (part : g.row.Y-Part.Denot) → AreLeft l.self.subject.wiring l.last c part l.initial.seat.me → AreLeft l.self.subject.wiring l.last c part l.seat.me;
  inputs : HasInputs l.self.subject.wiring.layout l.e l.place l.initial.seat.me l.seat.me;
}
