use Rattle.std.specs.Prelude.{[]}
use Rattle.pk_transfer.specs.Graphs.{layout_of}
use Rattle.pk_cert_report.specs.Checked.{reduced_states}
use Rattle.pk_report_laws.proofs.Programs.Checking.{valid_true}
use Rattle.pk_report_laws.proofs.laws.checks_are_true_of_programs.Goals as goal

pub returns : goal.returns
returns c = λ bytes unknown told x.
    c.true_states_are_true_of_programs.ensures x.head.text x.head.entry x.graph x.of_graph.has_graph [] (reduced_states (layout_of x.graph x.head.oct) x.cells)
    (valid_true c.checked_cells_are_true.ensures c.read_cells_hold_states.ensures c.graphs_are_well_made.ensures bytes unknown told x)
