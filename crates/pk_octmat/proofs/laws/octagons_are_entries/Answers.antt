use Rattle.pk_octmat.proofs.Tabled.{octagons_entries}
use Rattle.pk_octmat.proofs.laws.octagons_are_entries.Goals as goal

pub returns : goal.returns
returns c = octagons_entries
