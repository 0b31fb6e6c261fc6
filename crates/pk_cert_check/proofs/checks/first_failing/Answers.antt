use Rattle.std.proofs.Common.{map, subst}
use Rattle.std.specs.Arc.{arc_value}
use Rattle.pk_graph.specs.Shown.{graph_view}
use Rattle.pk_state.specs.Layouts.{IsLayout}
use Rattle.pk_transfer.specs.Graphs.{layout_of}
use Rattle.pk_cert_check.proofs.Running.{checked_by}
use Rattle.pk_cert_check.proofs.checks.first_failing.Goals as goal

pub returns-clause-first : goal.returns-clause-first
returns-clause-first c =
    let g = graph_view c.args.graph.now in
    let a = c.in_ok-analysis.analysis in
    checked_by g (graph_view a.graph) (layout_of g c.args.oct) a.layout (map arc_value c.args.cells.now) c.points.result c.in_ok-found.found c.in_ok-analysis.ensures.graph c.in_ok-analysis.ensures.layout c.families_are_tested.ensures
    (record { graph = c.well_made.ensures; layout = subst IsLayout c.requires.frame c.is_layout.ensures; over = c.graphs_law.ensures.over g c.args.oct }) c.points.ensures c.in_ok-found.ensures.first
