use Rattle.pk_graph_report.proofs.Determined.{one_report}
use Rattle.pk_graph_report.proofs.laws.one_report.Goals as goal

pub returns : goal.returns
returns c = one_report c.states_are_determined.ensures c.order_lines_are_determined.ensures
