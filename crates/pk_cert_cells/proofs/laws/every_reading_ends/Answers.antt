use Rattle.pk_cert_cells.proofs.Every.{every_reading_ends}
use Rattle.pk_cert_cells.proofs.laws.every_reading_ends.Goals as goal

pub returns : goal.returns
returns c = every_reading_ends c.every_lines_end.ensures c.every_line_is_settled.ensures
