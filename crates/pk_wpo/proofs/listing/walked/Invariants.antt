use Rattle.std.proofs.Common.{◌≡◌, ◌<◌, ◌++◌, [], length, get_or, drop, reverse, All}
use Rattle.pk_wpo.specs.Walks.{walk_elements, walk_homes}
use Rattle.pk_wpo.proofs.listing.walked.Given as goal

-- what was walked, and what the rest of the walk gives
abbrev pub invariant-loop-place : goal.invariant-loop-place
invariant-loop-place l =
    record {
      below : All (λ h. h < length l.exits) l.opened.items;
      elements : l.elements.items ++ walk_elements (λ h. get_or l.exits h 0) (drop l.place-index l.place-items) (reverse l.opened.items) ≡ walk_elements (λ h. get_or l.exits h 0) l.place-items [];
      homes : l.homes.items ++ walk_homes (drop l.place-index l.place-items) (reverse l.opened.items) ≡ walk_homes l.place-items [];
    }
