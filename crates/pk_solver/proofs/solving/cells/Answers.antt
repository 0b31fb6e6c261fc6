use Rattle.std.specs.Prelude.{IfErr}
use Rattle.std.proofs.Common.{subst}
use Rattle.std.proofs.lemmas.Result.{IfOk-weaker}
use Rattle.pk_graph.specs.Graphs.{GraphOf}
use Rattle.pk_solver.specs.Solved.{AreRawCells, IsCause}
use Rattle.pk_solver.proofs.Outcomes.{cells_moved, raw_so}
use Rattle.pk_solver.proofs.solving.cells.Goals as goal

pub returns-clause-ok : goal.returns-clause-ok
returns-clause-ok g c =
    let o = c.args.options.now.analysis in
    let most = c.args.options.now.max_runs in
    IfOk-weaker c.cells_by-cells.result _ _
    (λ it x. subst (λ (h : GraphOf). AreRawCells h o most it.cells) c.in_ok-analysis.ensures.graph (raw_so o c.args.plan.now c.in_ok-analysis.analysis most it x))
    c.cells_by-cells.ensures.ok

pub returns-clause-over : goal.returns-clause-over
returns-clause-over g c =
    IfOk-weaker c.cells_by-cells.result _ _ (λ it x. cells_moved it.cells c.in_ok-analysis.ensures.graph c.in_ok-analysis.ensures.layout x) c.cells_by-cells.ensures.over

pub returns-clause-err : goal.returns-clause-err
returns-clause-err g c =
    subst (λ (h : GraphOf). IfErr c.cells_by-cells.result (IsCause h c.args.options.now.analysis c.args.options.now.max_runs)) c.in_ok-analysis.ensures.graph c.cells_by-cells.ensures.err
