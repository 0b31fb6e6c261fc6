use Rattle.std.proofs.Common.{◌+◌, reverse}
use Rattle.pk_typed.specs.Views.{unit_tree}
use Rattle.pk_calls.proofs.Walking.{Walking, frames_left, states_left}
use Rattle.pk_calls.proofs.walk.walk.Given as goal

abbrev pub invariant-loop-frame : goal.invariant-loop-frame
invariant-loop-frame l = Walking (unit_tree l.unit) l.entry l.states.items (reverse l.frames.items)

abbrev pub decreases-loop-frame : goal.decreases-loop-frame
decreases-loop-frame l = frames_left (unit_tree l.unit) (reverse l.frames.items) + states_left (unit_tree l.unit) 0 l.states.items
