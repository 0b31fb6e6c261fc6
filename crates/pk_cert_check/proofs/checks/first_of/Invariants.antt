use Rattle.std.proofs.Common.{◌≡◌, map}
use Rattle.std.specs.Arc.{arc_value}
use Rattle.pk_graph.specs.Shown.{graph_view}
use Rattle.pk_cert_check.specs.Checked.{HavePassed}
use Rattle.pk_cert_check.proofs.checks.first_of.Given as goal

-- so many points pass, and the cells hold what they held
abbrev pub invariant-loop-v : goal.invariant-loop-v
invariant-loop-v l =
    HavePassed (graph_view l.analysis.graph) l.analysis.layout (map arc_value l.fn.cells) l.v × (map arc_value l.cells ≡ map arc_value l.fn.cells)
