-- The accesses of graphs.
use Rattle.std.specs.Prelude.{◌<◌, length, All}
use Rattle.pk_graph.specs.Accesses.{AccessOf, accesses_of}
use Rattle.pk_graph.specs.Graphs.{GraphOf, kinds_of}
use Rattle.pk_graph.specs.WellMade.{IsGraph}
use Rattle.pk_state.specs.Layouts.{Layout}
use Rattle.pk_transfer.specs.Trees.{IsOver}
use Rattle.pk_transfer.specs.Trees as layouts
use Rattle.pk_verdict.specs.Verdicts.{IsTypedOperation}

-- an access of one of the graph's points, whose operands agree with a layout
pub record IsAccessOver (g : GraphOf) (y : Layout) (a : AccessOf) : Type 0 where
  pub point : a.point < length g.points
  pub typed : IsTypedOperation (layouts.kinds_of y) a.operation

-- All accesses of a graph are such, over each layout of its variables.
abbrev pub AccessesAreOver : Type 0
AccessesAreOver =
    (g : GraphOf) (y : Layout) → IsGraph g → IsOver (kinds_of g) y → All (IsAccessOver g y) (accesses_of g)
