use Rattle.pk_lower_laws.proofs.Parts.Sizes.{parts_make_their_size}
use Rattle.pk_lower_laws.proofs.laws.parts_make_their_size.Goals as goal

pub returns : goal.returns
returns g c = parts_make_their_size g.row.V.Denot
