use Rattle.pk_packs.proofs.PackLemmas.{inner_edges_are_outer}
use Rattle.pk_packs.proofs.laws.inner_edges_are_outer.Goals as goal

pub returns : goal.returns
returns c = inner_edges_are_outer
