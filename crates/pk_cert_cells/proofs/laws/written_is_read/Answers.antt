use Rattle.pk_cert_cells.proofs.ReadingBack.{written_is_read}
use Rattle.pk_cert_cells.proofs.laws.written_is_read.Goals as goal

pub returns : goal.returns
returns c = written_is_read c.heads_are_told.ensures c.lines_are_told.ensures c.first_wrong_is_one.ensures c.facts_have_lines.ensures
