use Rattle.pk_read_back_texts.proofs.Texts.{runs_are_read_back}
use Rattle.pk_read_back_texts.proofs.laws.runs_are_read_back.Goals as goal

pub returns : goal.returns
returns c = runs_are_read_back c.texts_are_tellable.ensures c.reports_are_read_back.ensures
