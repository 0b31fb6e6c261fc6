use Rattle.pk_text_laws.proofs.Total.Ends.{every_text_ends}
use Rattle.pk_text_laws.proofs.laws.every_text_ends.Goals as goal

pub returns : goal.returns
returns c = every_text_ends c.trees_lead_on.ensures
