use Rattle.std.proofs.Common.{◌≡◌, ◌≤◌, ◌∷◌, ◌++◌, length, map, reverse, take}
use Rattle.pk_typed.specs.Views.{unit_tree}
use Rattle.pk_calls.specs.Calls.{name_of}
use Rattle.pk_calls.specs.Walk.{back_to}
use Rattle.pk_calls.specs.Frames.{path_of}
use Rattle.pk_calls.proofs.walk.names_back.Given as goal

abbrev pub invariant-loop-i : goal.invariant-loop-i
invariant-loop-i l = record {
  in_range : l.i ≤ length l.frames;
  so_far : l.names.items ++ map (name_of (unit_tree l.unit)) (back_to l.function (path_of (reverse (take l.i l.frames)))) ≡ map (name_of (unit_tree l.unit)) (l.function ∷ back_to l.function (path_of (reverse l.frames)));
}

abbrev pub decreases-loop-i : goal.decreases-loop-i
decreases-loop-i l = l.i
