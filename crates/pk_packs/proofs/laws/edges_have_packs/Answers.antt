use Rattle.pk_packs.proofs.PackLemmas.{edges_have_packs}
use Rattle.pk_packs.proofs.laws.edges_have_packs.Goals as goal

pub returns : goal.returns
returns c = edges_have_packs
