use Rattle.std.proofs.Common.{map, ◌*◌, ◌-◌, sum}
use Rattle.std.specs.Arc.{arc_value}
use Rattle.pk_iterate.specs.Times.{AreTimes}
use Rattle.pk_iterate.proofs.Stands.{Stands}
use Rattle.pk_iterate.proofs.walk.iterate.Given as goal

abbrev pub invariant-loop-at : goal.invariant-loop-at
invariant-loop-at g l = record {
  stands : Stands (g.Y.System.meaning l.system) l.order.order l.order.elements l.max_runs (map arc_value l.front.cells.items) l.front.runs.items l.at;
  times : AreTimes (g.Y.System.meaning l.system) (map arc_value l.front.cells.items) l.front.times.changed.items l.front.times.made.items l.front.times.clock;
}

abbrev pub decreases-loop-at : goal.decreases-loop-at
decreases-loop-at g l = l.order.elements * l.max_runs - sum l.front.runs.items
