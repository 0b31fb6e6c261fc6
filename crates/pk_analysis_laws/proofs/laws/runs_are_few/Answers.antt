use Rattle.pk_analysis_laws.proofs.Turns.Counting.{runs_are_few}
use Rattle.pk_analysis_laws.proofs.laws.runs_are_few.Goals as goal

pub returns : goal.returns
returns g c = runs_are_few (g.Y.System.meaning c.args.system.now)
