use Rattle.pk_cert_report.proofs.Deciding.{one_certificate}
use Rattle.pk_cert_report.proofs.laws.one_certificate.Goals as goal

pub returns : goal.returns
returns c = one_certificate c.graph_is_determined.ensures c.raw_cells_are_determined.ensures c.states_are_determined.ensures
