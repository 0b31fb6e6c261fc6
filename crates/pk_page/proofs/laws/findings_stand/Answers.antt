use Rattle.pk_page.proofs.StandLemmas.{findings_stand}
use Rattle.pk_page.proofs.laws.findings_stand.Goals as goal

pub returns : goal.returns
returns c = findings_stand
