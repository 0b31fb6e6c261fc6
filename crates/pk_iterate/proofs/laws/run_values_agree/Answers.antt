use Rattle.pk_iterate.proofs.Run_values.{run_value_newest, run_values_stay, values_read_stay, values_read_is, run_made}
use Rattle.pk_iterate.proofs.laws.run_values_agree.Goals as goal

pub returns : goal.returns
returns g c =
    let b = g.Y.System.meaning c.args.system.now in
    record {
      newest = run_value_newest b;
      values_stay = run_values_stay b;
      reads_stay = values_read_stay b;
      reads = values_read_is b;
      made = run_made b;
    }
