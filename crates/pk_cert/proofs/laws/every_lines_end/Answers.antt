use Rattle.pk_cert.proofs.EveryLine.{every_lines_end}
use Rattle.pk_cert.proofs.laws.every_lines_end.Goals as goal

pub returns : goal.returns
returns c = every_lines_end
