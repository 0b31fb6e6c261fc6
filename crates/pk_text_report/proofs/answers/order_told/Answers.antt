use Rattle.pk_cert_report.specs.Causes.{IsUngraphed}
use Rattle.pk_text_report.proofs.Ending.{handed_on}
use Rattle.pk_text_report.proofs.answers.order_told.Goals as goal

pub returns-in_err-graph-clause-stopped : goal.returns-in_err-graph-clause-stopped
returns-in_err-graph-clause-stopped c =
    handed_on c.args.text.now c.as_str.result.now c.args.options.now.entry (IsUngraphed c.args.text.now c.args.options.now.entry) c.from_residual.result c.in_err-graph.field-0.0 (λ s x. x) c.from_residual.ensures.1 c.as_str.ensures c.in_err-graph.ensures.none
