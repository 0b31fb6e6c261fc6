use Rattle.pk_report_laws.proofs.Runs.Telling.{reports_true}
use Rattle.pk_report_laws.proofs.laws.reports_are_true.Goals as goal

pub returns : goal.returns
returns c = reports_true c.result_holds_runs.ensures c.verdicts_hold.ensures c.bounds_hold.ensures c.faults_are_unknown.ensures
