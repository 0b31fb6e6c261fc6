use Rattle.pk_cert_cells.proofs.ReadingBack.{one_reading}
use Rattle.pk_cert_cells.proofs.laws.one_reading.Goals as goal

pub returns : goal.returns
returns c = one_reading c.heads_are_told.ensures c.lines_are_told.ensures c.first_wrong_is_one.ensures c.facts_have_lines.ensures
