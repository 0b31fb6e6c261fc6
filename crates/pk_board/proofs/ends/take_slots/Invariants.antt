use Rattle.std.proofs.Common.{◌≡◌, ℕ, ◌<◌, ◌≤◌, ◌⊎◌, get_or, false}
use Rattle.std.specs.Mem.Slots.{slots_items, slots_filled, slots_len}
use Rattle.pk_board.proofs.ends.take_slots.Given as goal

-- the slots before this one were taken
abbrev pub invariant-loop-slot : goal.invariant-loop-slot
invariant-loop-slot g l = record {
  items : slots_items l.closed.slots ≡ slots_items l.fn.closed.slots;
  long : slots_len l.closed.slots ≡ slots_len l.fn.closed.slots;
  words : l.closed.words ≡ l.fn.closed.words;
  taken : (k : ℕ) → l.from ≤ k → k < l.slot → get_or (slots_filled l.closed.slots) k false ≡ false;
  others : (k : ℕ) → (k < l.from) ⊎ (l.slot ≤ k) → get_or (slots_filled l.closed.slots) k false ≡ get_or (slots_filled l.fn.closed.slots) k false;
}
