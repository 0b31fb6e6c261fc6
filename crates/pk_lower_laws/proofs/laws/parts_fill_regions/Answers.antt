use Rattle.pk_lower_laws.proofs.Parts.Measures.{parts_fill_regions}
use Rattle.pk_lower_laws.proofs.laws.parts_fill_regions.Goals as goal

pub returns : goal.returns
returns g c = parts_fill_regions g.row.V.Denot
