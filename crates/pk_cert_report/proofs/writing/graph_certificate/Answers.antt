use Rattle.std.proofs.Common.{inl, sym, subst}
use Rattle.pk_graph.specs.Shown.{graph_view}
use Rattle.pk_cert_report.specs.Causes.{IsUnanalysed}
use Rattle.pk_cert_report.proofs.Deciding.{cause_so}
use Rattle.pk_cert_report.proofs.writing.graph_certificate.Goals as goal

pub returns-in-Err-clause-err : goal.returns-in-Err-clause-err
returns-in-Err-clause-err g c =
    inl (subst (IsUnanalysed c.args.text.now c.args.entry.now c.args.iteration.now.analysis c.args.iteration.now.max_runs) (sym c.unanalysed_status.ensures)
    (cause_so c.args.text.now c.args.entry.now (graph_view c.args.graph.now) c.args.iteration.now.analysis c.args.iteration.now.max_runs c.in-Err.why c.requires.of_text c.in-Err.ensures.err))
