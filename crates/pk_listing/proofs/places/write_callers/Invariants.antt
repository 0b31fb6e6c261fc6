use Rattle.std.proofs.Common.{◌≡◌, ◌≤◌, ◌++◌, length}
use Rattle.pk_listing.specs.Places.{callers_text}
use Rattle.pk_listing.proofs.places.write_callers.Given as goal

-- what is written so far stands before what is left
abbrev pub invariant-loop-left : goal.invariant-loop-left
invariant-loop-left l = record {
  within : l.left ≤ length l.path.calls;
  text : l.bytes.items ++ callers_text l.text l.path l.left ≡ l.initial.bytes.items ++ callers_text l.text l.path (length l.path.calls);
}

abbrev pub decreases-loop-left : goal.decreases-loop-left
decreases-loop-left l = l.left
