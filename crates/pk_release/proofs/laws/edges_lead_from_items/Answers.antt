use Rattle.pk_release.proofs.Edges.{edges_lead_from_items}
use Rattle.pk_release.proofs.laws.edges_lead_from_items.Goals as goal

pub returns : goal.returns
returns c = edges_lead_from_items
