use Rattle.std.proofs.Common.{refl}
use Rattle.pk_iterate.proofs.Recursion_runs.{goes_whole}
use Rattle.pk_iterate.proofs.Determined.{goes_same, goes_reached}
use Rattle.pk_iterate.proofs.laws.recursion_is_determined.Goals as goal

pub returns : goal.returns
returns g c =
    let b = g.Y.System.meaning c.args.system.now in
    record {
      one = λ level runs after after' goes goes'. goes_same b goes refl goes';
      goes = goes_whole b;
      reached = goes_reached b;
    }
