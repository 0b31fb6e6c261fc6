use Rattle.pk_text_report.proofs.Answering.{means_nothing}
use Rattle.pk_text_report.proofs.laws.means_law.Goals as goal

pub returns : goal.returns
returns c = means_nothing c.one_command.ensures
