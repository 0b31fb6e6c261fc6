use Rattle.pk_packs.proofs.PackLemmas.{packs_are_of_their_edges}
use Rattle.pk_packs.proofs.laws.packs_are_of_their_edges.Goals as goal

pub returns : goal.returns
returns c = packs_are_of_their_edges
