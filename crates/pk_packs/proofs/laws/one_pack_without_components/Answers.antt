use Rattle.pk_packs.proofs.PackLemmas.{one_pack_without_components}
use Rattle.pk_packs.proofs.laws.one_pack_without_components.Goals as goal

pub returns : goal.returns
returns c = one_pack_without_components
