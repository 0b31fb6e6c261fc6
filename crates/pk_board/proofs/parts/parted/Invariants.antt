use Rattle.std.proofs.Common.{◌≡◌, ℕ, ◌<◌, ◌≤◌, get_or, length, map, filter, take, true, false}
use Rattle.std.specs.Mem.Slots.{slots_items, slots_filled, slots_len}
use Rattle.pk_plan.specs.Order.{Level}
use Rattle.pk_plan.specs.Plans.{place_of}
use Rattle.pk_plan.specs.Shape.{shape_of}
use Rattle.pk_iterate.specs.Ending.{Ends, result_cell}
use Rattle.pk_core.specs.Orders.{IsOrderOf}
use Rattle.pk_items.specs.Items.{points_in}
use Rattle.pk_layout.specs.Layouts.{slots_of, owner_of}
use Rattle.pk_board.specs.Parts.{ends_item}
use Rattle.pk_board.proofs.parts.parted.Given as goal

-- the elements of the listing so far
abbrev pub invariant-loop-e : goal.invariant-loop-e
invariant-loop-e g l = record {
  items : slots_items l.closed.slots ≡ slots_items l.fn.closed.slots;
  long : slots_len l.closed.slots ≡ slots_len l.fn.closed.slots;
  taken : (k : ℕ) → k < slots_of l.subject.wiring.layout → place_of l.subject.wiring.plan (owner_of l.subject.wiring.layout k) < l.e-index → get_or (slots_filled l.closed.slots) k false ≡ false;
  full : (k : ℕ) → k < slots_of l.subject.wiring.layout → l.e-index ≤ place_of l.subject.wiring.plan (owner_of l.subject.wiring.layout k) → get_or (slots_filled l.closed.slots) k false ≡ true;
  tops : l.lean.tops ≡ l.fn.lean.tops;
  room : l.lean.room ≡ l.subject.wiring.plan.elements;
  count : length l.lean.parts ≤ l.e-index;
  parts : (order : Level) (ends : Ends (g.Y.System.meaning l.subject.system) order) → IsOrderOf (shape_of l.subject.wiring.plan) order
      → l.lean.parts ≡ map (λ j. g.Y.Parted.part_of l.subject.system (points_in l.subject.wiring.plan j) (map (result_cell ends) (points_in l.subject.wiring.plan j))) (filter (ends_item l.subject.wiring.plan) (take l.e-index l.subject.wiring.plan.listing));
}
