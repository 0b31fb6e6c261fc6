use Rattle.pk_sound.proofs.Planning.{analyses_go_by_plan}
use Rattle.pk_sound.proofs.laws.analyses_go_by_plan.Goals as goal

pub returns : goal.returns
returns c = analyses_go_by_plan
