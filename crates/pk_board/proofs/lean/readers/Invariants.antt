use Rattle.pk_board.proofs.Reading_slots.{AreReadBelow, AreReadTo}
use Rattle.pk_board.proofs.lean.readers.Given as goal

-- the elements so far, and the places of this one
abbrev pub invariant-loop-e : goal.invariant-loop-e
invariant-loop-e g l = AreReadBelow l.layout l.e l.readers.items

abbrev pub invariant-loop-place : goal.invariant-loop-place
invariant-loop-place g l = AreReadTo l.layout l.e l.place l.readers.items
