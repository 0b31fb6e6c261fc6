use Rattle.std.proofs.Common.{map}
use Rattle.pk_graph.specs.Graphs.{path_view}
use Rattle.pk_report.proofs.PathLemmas.{IsUp}
use Rattle.pk_report.proofs.paths.line_of.Given as goal

abbrev pub invariant-loop-next : goal.invariant-loop-next
invariant-loop-next l = IsUp (map path_view l.paths) l.path l.current l.line.items

abbrev pub decreases-loop-next : goal.decreases-loop-next
decreases-loop-next l = l.current
