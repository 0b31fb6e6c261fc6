use Rattle.std.proofs.Common.{◌≡◌, ℕ, ◌<◌, ◌≤◌, get_or, length, map, true, false}
use Rattle.std.specs.List.{range_with_len}
use Rattle.std.specs.Mem.Slots.{slots_items, slots_filled, slots_len}
use Rattle.pk_plan.specs.Order.{Level}
use Rattle.pk_plan.specs.Shape.{shape_of}
use Rattle.pk_iterate.specs.Ending.{Ends, result_cell, result_count}
use Rattle.pk_core.specs.Orders.{IsOrderOf}
use Rattle.pk_layout.specs.Layouts.{first_of}
use Rattle.pk_board.proofs.ends.gathered.Given as goal

-- the elements so far
abbrev pub invariant-loop-e : goal.invariant-loop-e
invariant-loop-e g l = record {
  items : slots_items l.closed.slots ≡ slots_items l.fn.closed.slots;
  long : slots_len l.closed.slots ≡ slots_len l.fn.closed.slots;
  words : l.closed.words ≡ l.fn.closed.words;
  taken : (k : ℕ) → k < first_of l.subject.wiring.layout l.e → get_or (slots_filled l.closed.slots) k false ≡ false;
  full : (k : ℕ) → first_of l.subject.wiring.layout l.e ≤ k → k < slots_len l.closed.slots → get_or (slots_filled l.closed.slots) k false ≡ true;
  room : l.results.room ≡ l.subject.wiring.plan.elements;
  count : length l.results.cells ≡ l.e;
  cells : (order : Level) (ends : Ends (g.Y.System.meaning l.subject.system) order) → IsOrderOf (shape_of l.subject.wiring.plan) order → l.results.cells ≡ map (result_cell ends) (range_with_len 0 l.e);
  runs : (order : Level) (ends : Ends (g.Y.System.meaning l.subject.system) order) → IsOrderOf (shape_of l.subject.wiring.plan) order → l.results.runs ≡ map (result_count ends) (range_with_len 0 l.e);
}
