use Rattle.std.proofs.Common.{inl, ◌∙◌, sym, subst}
use Rattle.pk_graph.specs.Shown.{graph_view}
use Rattle.pk_state.specs.Layouts.{Layout}
use Rattle.pk_solver.specs.Solved.{AreCellsOver}
use Rattle.pk_cert_laws.proofs.One_octagon.{one_octagon}
use Rattle.pk_cert_report.specs.Causes.{IsUnanalysed}
use Rattle.pk_cert_report.proofs.Deciding.{cause_so}
use Rattle.pk_cert_report.proofs.writing.plan_certificate.Goals as goal

pub written-requires-clause-frame : goal.written-requires-clause-frame
written-requires-clause-frame g c =
    c.requires.prepared.layout ∙ one_octagon (graph_view c.args.graph.now) c.args.plan.now c.args.iteration.now.analysis c.requires.one_octagon

pub written-requires-clause-over : goal.written-requires-clause-over
written-requires-clause-over g c =
    subst (λ (l : Layout). AreCellsOver (graph_view c.args.graph.now) l c.in-Ok.cells.cells)
    (c.requires.prepared.layout ∙ one_octagon (graph_view c.args.graph.now) c.args.plan.now c.args.iteration.now.analysis c.requires.one_octagon)
    c.in-Ok.ensures.over

pub returns-in-Err-clause-err : goal.returns-in-Err-clause-err
returns-in-Err-clause-err g c =
    inl (subst (IsUnanalysed c.args.text.now c.args.entry.now c.args.iteration.now.analysis c.args.iteration.now.max_runs) (sym c.unanalysed_status.ensures)
    (cause_so c.args.text.now c.args.entry.now (graph_view c.args.graph.now) c.args.iteration.now.analysis c.args.iteration.now.max_runs c.in-Err.why c.requires.of_text c.in-Err.ensures.err))
