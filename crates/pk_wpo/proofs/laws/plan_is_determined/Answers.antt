use Rattle.pk_wpo.proofs.Alike.{alike}
use Rattle.pk_wpo.proofs.laws.plan_is_determined.Goals as goal

pub returns : goal.returns
returns c = alike c.args.graph.now
