use Rattle.pk_lower_laws.proofs.Parts.Leading.{listings_lead_behind}
use Rattle.pk_lower_laws.proofs.laws.listings_lead_behind.Goals as goal

pub returns : goal.returns
returns c = listings_lead_behind
