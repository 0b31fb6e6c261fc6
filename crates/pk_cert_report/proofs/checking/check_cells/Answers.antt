use Rattle.std.proofs.Common.{inr, map, refl, subst}
use Rattle.std.specs.Arc.{arc_value}
use Rattle.pk_graph.specs.Shown.{graph_view}
use Rattle.pk_transfer.specs.Graphs.{layout_of}
use Rattle.pk_cert.specs.Heads.{head_view}
use Rattle.pk_cert_check.specs.Checked.{IsChecked}
use Rattle.pk_cert_report.proofs.checking.check_cells.Goals as goal

pub first_and_cells-requires-clause-cells : goal.first_and_cells-requires-clause-cells
first_and_cells-requires-clause-cells c =
    c.read_cells_hold_states.ensures (graph_view c.args.graph.now) (head_view c.args.head.now) c.args.bytes.now (map arc_value c.args.cells.items) c.requires.read

pub returns-in-Some-clause-err : goal.returns-in-Some-clause-err
returns-in-Some-clause-err c =
    let h = head_view c.args.head.now in
    let g = graph_view c.args.graph.now in
    inr (inr (
      h,
      g,
      record { begins = record { is = c.requires.head.is; len = c.args.head.now.len; first = c.requires.head.first }; has_graph = c.requires.of_text },
      inr (c.in-Some.v, record { cells = map arc_value c.args.cells.items; read = c.requires.read; fails = subst (IsChecked g (layout_of g h.oct) (map arc_value c.args.cells.items)) c.in-Some.is c.in_ok-found.ensures.first }, refl),
    ))
