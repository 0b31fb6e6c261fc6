use Rattle.std.proofs.Common.{◌≡◌}
use Rattle.pk_board.specs.Emptying.{HasTaken, AreLeft, IsEmptying}
use Rattle.pk_board.proofs.boards.Board.empty_members.Given as goal

-- the members so far
abbrev pub invariant-loop-at : goal.invariant-loop-at
invariant-loop-at g l = record {
  same : (l.seat.table_id ≡ l.initial.seat.table_id) × (l.seat.id ≡ l.initial.seat.id);
  taken : HasTaken l.initial.seat.me l.seat.me;
  left : (c : g.row.Y-Cell.Denot) (part : g.row.Y-Part.Denot) → AreLeft l.self.subject.wiring l.last c part l.initial.seat.me → AreLeft l.self.subject.wiring l.last c part l.seat.me;
  emptying : IsEmptying l.self.subject.wiring l.last l.start l.at l.seat.me;
}
