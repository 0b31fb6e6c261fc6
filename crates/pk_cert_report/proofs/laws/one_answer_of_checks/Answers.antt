use Rattle.pk_cert_report.proofs.Judging.{one_answer_of_checks}
use Rattle.pk_cert_report.proofs.laws.one_answer_of_checks.Goals as goal

pub returns : goal.returns
returns c = one_answer_of_checks (record {
  graphs = c.graph_is_determined.ensures;
  made = c.graphs_are_well_made.ensures;
  layouts = c.graphs_law.ensures;
  heads = c.heads_are_told.ensures;
  wrong = c.first_wrong_is_one.ensures;
  reading = c.one_reading.ensures;
  check = c.one_check.ensures;
})
