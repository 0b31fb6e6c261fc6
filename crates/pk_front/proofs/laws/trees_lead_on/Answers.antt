use Rattle.pk_front.proofs.EndLemmas.{trees_lead_on}
use Rattle.pk_front.proofs.laws.trees_lead_on.Goals as goal

pub returns : goal.returns
returns c = trees_lead_on
