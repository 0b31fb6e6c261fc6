use Rattle.std.specs.Prelude.{IfOk, IfErr}
use Rattle.std.proofs.Common.{subst}
use Rattle.pk_graph.specs.Graphs.{GraphOf}
use Rattle.pk_solver.specs.Solved.{AreOver, AreStates, IsCause}
use Rattle.pk_solver.proofs.solving.states.Goals as goal

pub returns-clause-ok : goal.returns-clause-ok
returns-clause-ok g c =
    subst (λ (h : GraphOf). IfOk c.states_by-states.result (AreStates h c.args.options.now.analysis c.args.options.now.max_runs c.args.plan.now)) c.in_ok-analysis.ensures.graph c.states_by-states.ensures.ok

pub returns-clause-over : goal.returns-clause-over
returns-clause-over g c = subst (λ (h : GraphOf). IfOk c.states_by-states.result (AreOver h)) c.in_ok-analysis.ensures.graph c.states_by-states.ensures.over

pub returns-clause-err : goal.returns-clause-err
returns-clause-err g c =
    subst (λ (h : GraphOf). IfErr c.states_by-states.result (IsCause h c.args.options.now.analysis c.args.options.now.max_runs)) c.in_ok-analysis.ensures.graph c.states_by-states.ensures.err
