use Rattle.std.proofs.Common.{◌≡◌, ◌≤◌, length, fold, take}
use Rattle.pk_peak.proofs.Numbering.{numbered_then}
use Rattle.pk_peak.proofs.items.numbered.Given as goal

-- what is numbered by the places so far
abbrev pub invariant-loop-place : goal.invariant-loop-place
invariant-loop-place l = record {
  long : length l.of.items ≡ length l.initial.of.items;
  few : l.count ≤ l.place-index;
  shallow : l.depth ≤ l.place-index;
  made : fold numbered_then (record { of = l.initial.of.items; item = 0; count = 0; depth = 0 }) (take l.place-index l.place-items) ≡ record { of = l.of.items; item = l.item; count = l.count; depth = l.depth };
}
