use Rattle.pk_lean_report.proofs.Told.{kept_so, report_so}
use Rattle.pk_lean_report.proofs.reports.report_by.Goals as goal

pub report-requires : goal.report-requires
report-requires g c = record {
  kept = kept_so c.args.options.now.analysis c.args.plan.now c.args.reporting.now c.args.options.now.max_runs c.in_ok-kept.kept.items c.in_ok-kept.ensures.ok c.every_top_is_outermost.ensures;
}

pub returns-clause-ok : goal.returns-clause-ok
returns-clause-ok g c =
    report_so c.args.options.now.analysis c.args.plan.now c.args.reporting.now c.args.options.now.max_runs c.in_ok-kept.kept.items c.in_ok-kept.ensures.ok c.every_top_is_outermost.ensures
    c.requires.heads c.elements.result c.elements.ensures c.in_ok-told.told.1 c.in_ok-told.told.0.items c.in_ok-told.ensures.bytes c.in_ok-told.ensures.unknown
