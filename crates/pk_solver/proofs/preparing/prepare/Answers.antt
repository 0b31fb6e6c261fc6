use Rattle.std.proofs.Common.{ap, Err}
use Rattle.pk_graph.specs.Shown.{graph_view}
use Rattle.pk_solver.proofs.Solved.{many_so, plan_points, prepared_so}
use Rattle.pk_solver.proofs.preparing.prepare.Goals as goal

pub frame_for-requires-clause-plan : goal.frame_for-requires-clause-plan
frame_for-requires-clause-plan c =
    let ordered = c.in_ok-plan.ensures.ordered in
    plan_points (graph_view c.args.graph.now) c.in_ok-plan.plan ordered.0 ordered.1

pub frame_for-requires-clause-oct : goal.frame_for-requires-clause-oct
frame_for-requires-clause-oct c = c.requires.range.oct

pub returns-in-Ok-clause-ok : goal.returns-in-Ok-clause-ok
returns-in-Ok-clause-ok c =
    prepared_so (graph_view c.args.graph.now) c.args.options.now.analysis c.in_ok-plan.plan c.in-Ok.frame c.in_ok-plan.ensures.ordered c.in_ok-plan.ensures.few c.in-Ok.ensures.frame c.in-Ok.ensures.few

pub returns-in-Err-Limit-clause-err : goal.returns-in-Err-Limit-clause-err
returns-in-Err-Limit-clause-err c =
    many_so (graph_view c.args.graph.now) c.args.options.now.analysis c.in_ok-plan.plan c.in_ok-plan.ensures.ordered (c.in-Err-Limit.ensures.limit.0 (ap Err c.in-Err-Limit.field-0-is))
