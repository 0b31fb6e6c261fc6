use Rattle.std.proofs.Common.{take}
use Rattle.pk_graph.specs.Shown.{graph_view}
use Rattle.pk_report.specs.Reports.{first_line}
use Rattle.pk_pieces.specs.Pieces.{found_in}
use Rattle.pk_pieces.specs.Reports.{IsSoFar}
use Rattle.pk_pieces.proofs.reports.join.Given as goal

abbrev pub invariant-loop-k : goal.invariant-loop-k
invariant-loop-k l = IsSoFar (first_line (graph_view l.graph) l.elements) (found_in (take l.k l.places)) l.report
