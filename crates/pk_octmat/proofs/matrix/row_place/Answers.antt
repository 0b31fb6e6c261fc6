use Rattle.pk_octmat.proofs.Spots.{by_square}
use Rattle.pk_octmat.proofs.matrix.row_place.Goals as goal

pub returns : goal.returns
returns c = by_square c.args.i c.args.j
