use Rattle.pk_show.proofs.ReportLemmas.{report_read, report_told}
use Rattle.pk_show.proofs.laws.reports_are_read.Goals as goal

pub returns : goal.returns
returns c = record { read = report_read; told = report_told }
