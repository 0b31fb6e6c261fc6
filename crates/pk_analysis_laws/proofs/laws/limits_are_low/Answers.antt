use Rattle.pk_analysis_laws.proofs.Turns.Limits.{limits_are_low}
use Rattle.pk_analysis_laws.proofs.laws.limits_are_low.Goals as goal

pub returns : goal.returns
returns c = limits_are_low
