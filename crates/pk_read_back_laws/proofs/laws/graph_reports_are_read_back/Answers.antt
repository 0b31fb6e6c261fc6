use Rattle.pk_read_back_laws.proofs.ReadBackLemmas.{graph_reports_are_read_back}
use Rattle.pk_read_back_laws.proofs.laws.graph_reports_are_read_back.Goals as goal

pub returns : goal.returns
returns c = graph_reports_are_read_back c.reports_give_their_rows.ensures
