use Rattle.std.proofs.Common.{◌≡◌, ℕ, length}
use mathlib.Core.Option.{some}
use lib.ListN.{get_elem?}
use Rattle.pk_layout.specs.Layouts.{first_of, owner_of}
use Rattle.pk_words.specs.declared.slot.Slot.{Slot}
use Rattle.pk_words.specs.Kinds.{HasCell, kind_of}
use Rattle.pk_board.proofs.starts.start_slots.Given as goal

-- the slots so far
abbrev pub invariant-loop-e : goal.invariant-loop-e
invariant-loop-e g l = record {
  long : length l.slots.items ≡ first_of l.layout l.e;
  each : (k : ℕ) (x : Slot g.row.Y-Cell.Denot g.row.Y-Part.Denot) → get_elem? l.slots.items k ≡ some x → kind_of x ≡ HasCell ((g.Y.System.meaning l.system).first (owner_of l.layout k));
}

abbrev pub invariant-loop-slot : goal.invariant-loop-slot
invariant-loop-slot g l = record {
  long : length l.slots.items ≡ l.slot;
  each : (k : ℕ) (x : Slot g.row.Y-Cell.Denot g.row.Y-Part.Denot) → get_elem? l.slots.items k ≡ some x → kind_of x ≡ HasCell ((g.Y.System.meaning l.system).first (owner_of l.layout k));
}
