use Rattle.pk_release.proofs.Tops_of.{items_are_tops}
use Rattle.pk_release.proofs.laws.items_are_tops.Goals as goal

pub returns : goal.returns
returns c = items_are_tops
