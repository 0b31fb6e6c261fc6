use Rattle.pk_packs.proofs.BoundLemmas.{one_octagon_bounds}
use Rattle.pk_packs.proofs.laws.one_octagon_bounds.Goals as goal

pub returns : goal.returns
returns c = one_octagon_bounds
