use Rattle.pk_cert_report.proofs.Deciding.{one_cause}
use Rattle.pk_cert_report.proofs.laws.one_cause.Goals as goal

pub returns : goal.returns
returns c = one_cause c.graph_is_determined.ensures c.states_are_determined.ensures
