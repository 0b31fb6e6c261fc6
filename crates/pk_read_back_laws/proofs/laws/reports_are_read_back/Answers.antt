use Rattle.pk_read_back_laws.proofs.ReadBackLemmas.{reports_are_read_back}
use Rattle.pk_read_back_laws.proofs.laws.reports_are_read_back.Goals as goal

pub returns : goal.returns
returns c = reports_are_read_back c.drafts_are_typed.ensures c.graph_reports_are_read_back.ensures
