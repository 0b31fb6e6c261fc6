use Rattle.pk_octmat.proofs.Half.{kept_read}
use Rattle.pk_octmat.proofs.matrix.cell.Goals as goal

pub returns : goal.returns
returns c = kept_read _ _ _ _ _ _ c.requires.pairs c.requires.size c.requires.row c.requires.column c.spot.ensures c.index-cells-spot.is
