use Rattle.pk_cert.proofs.Lines.{lines_are_told}
use Rattle.pk_cert.proofs.laws.lines_are_told.Goals as goal

pub returns : goal.returns
returns c = lines_are_told
