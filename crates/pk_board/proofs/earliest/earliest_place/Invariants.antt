use Rattle.std.proofs.Common.{◌≡◌, ℕ, fold, min, take}
use Rattle.pk_plan.specs.Plans.{predecessors_of, place_of}
use Rattle.pk_board.proofs.earliest.earliest_place.Given as goal

-- the least so far
abbrev pub invariant-loop-a : goal.invariant-loop-a
invariant-loop-a l = l.least ≡ fold (λ (least a : ℕ). min least (place_of l.plan a)) l.plan.elements (take l.a-index (predecessors_of l.plan l.e))
