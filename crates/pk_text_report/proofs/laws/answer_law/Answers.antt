use Rattle.pk_text_report.proofs.Answering.{one_answer}
use Rattle.pk_text_report.proofs.laws.answer_law.Goals as goal

pub returns : goal.returns
returns c = one_answer c.one_command.ensures (record {
  graphs = c.graph_is_determined.ensures;
  reports = c.one_report.ensures;
  causes = c.one_cause.ensures;
  certificates = c.one_certificate.ensures;
  checks = c.one_answer_of_checks.ensures;
})
