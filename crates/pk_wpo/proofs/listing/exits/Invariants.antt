use Rattle.std.proofs.Common.{◌≡◌, ◌+◌, length, map, filter, take, Bool}
use Rattle.std.specs.List.{range_with_len}
use Rattle.pk_wpo.proofs.listing.exits.Given as goal

-- the numbers so far
abbrev pub invariant-loop-head : goal.invariant-loop-head
invariant-loop-head l =
    record {
      numbers : l.exits.items ≡ map (λ k. length l.heads + length (filter (λ (b : Bool). b) (take k l.heads))) (range_with_len 0 l.head-index);
      next_number : l.next ≡ length l.heads + length (filter (λ (b : Bool). b) (take l.head-index l.heads));
    }
