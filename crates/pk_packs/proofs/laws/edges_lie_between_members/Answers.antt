use Rattle.pk_packs.proofs.PackLemmas.{edges_lie_between_members}
use Rattle.pk_packs.proofs.laws.edges_lie_between_members.Goals as goal

pub returns : goal.returns
returns c = edges_lie_between_members
