use Rattle.std.proofs.Common.{◌≡◌, ap, length}
use Rattle.pk_graph.specs.Graphs.{GraphOf}
use Rattle.pk_graph.specs.Shown.{graph_view}
use Rattle.pk_cert.specs.Heads.{head_view}
use Rattle.pk_cert_report.proofs.Reducing.{cells_over, counted_over, states_are, states_over, told_over}
use Rattle.pk_cert_report.proofs.checking.verdicts_by.Goals as goal

pub of-states-requires-clause-held : goal.of-states-requires-clause-held
of-states-requires-clause-held c =
    cells_over (graph_view c.args.graph.now) (head_view c.args.head.now) c.args.bytes.now c.args.cells.cells c.requires.read c.in_ok-analysis.analysis.layout c.in_ok-analysis.ensures.layout

pub checked_of-requires : goal.checked_of-requires
checked_of-requires c =
    let g = graph_view c.args.graph.now in
    let same : length (graph_view c.in_ok-analysis.analysis.graph).points ≡ length g.points = ap (λ (j : GraphOf). length j.points) c.in_ok-analysis.ensures.graph in
    record {
      over = states_over g (head_view c.args.head.now) c.args.bytes.now c.args.cells.cells c.requires.read c.of-states.result c.graphs_law.ensures
          (states_are g (head_view c.args.head.now) c.args.bytes.now c.args.cells.cells c.requires.read c.in_ok-analysis.analysis.layout _ c.of-states.result c.in_ok-analysis.ensures.layout same c.of-states.ensures);
    }

pub returns-clause-told : goal.returns-clause-told
returns-clause-told c =
    let g = graph_view c.args.graph.now in
    let same : length (graph_view c.in_ok-analysis.analysis.graph).points ≡ length g.points = ap (λ (j : GraphOf). length j.points) c.in_ok-analysis.ensures.graph in
    let states = states_are g (head_view c.args.head.now) c.args.bytes.now c.args.cells.cells c.requires.read c.in_ok-analysis.analysis.layout _ c.of-states.result c.in_ok-analysis.ensures.layout same c.of-states.ensures in
    told_over _ g c.checked_of.result c.of-states.result _ states c.checked_of.ensures.bytes

pub returns-clause-counted : goal.returns-clause-counted
returns-clause-counted c =
    let g = graph_view c.args.graph.now in
    let same : length (graph_view c.in_ok-analysis.analysis.graph).points ≡ length g.points = ap (λ (j : GraphOf). length j.points) c.in_ok-analysis.ensures.graph in
    let states = states_are g (head_view c.args.head.now) c.args.bytes.now c.args.cells.cells c.requires.read c.in_ok-analysis.analysis.layout _ c.of-states.result c.in_ok-analysis.ensures.layout same c.of-states.ensures in
    counted_over _ g c.checked_of.result c.of-states.result _ states c.checked_of.ensures.unknown
