use Rattle.std.proofs.Common.{sym}
use Rattle.pk_transfer.specs.Graphs.{layout_of}
use Rattle.pk_cert_report.specs.Checked.{reduced_states}
use Rattle.pk_report_laws.proofs.Programs.Checking.{valid_true}
use Rattle.pk_report_laws.proofs.laws.checks_are_faultless.Goals as goal

pub returns : goal.returns
returns c = λ bytes told x.
    c.true_states_are_faultless.ensures x.head.text x.head.entry x.graph x.of_graph.has_graph (reduced_states (layout_of x.graph x.head.oct) x.cells)
    (valid_true c.checked_cells_are_true.ensures c.read_cells_hold_states.ensures c.graphs_are_well_made.ensures bytes 0 told x)
    (sym x.counted)
