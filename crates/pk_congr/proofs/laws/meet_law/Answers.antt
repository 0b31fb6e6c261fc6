use Rattle.pk_congr.proofs.Meets.{meet_is_both}
use Rattle.pk_congr.proofs.laws.meet_law.Goals as goal

pub returns : goal.returns
returns c = meet_is_both
