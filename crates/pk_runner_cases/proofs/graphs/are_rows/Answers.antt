use Rattle.std.proofs.Common.{arith, below_more, subst}
use Rattle.pk_graph.specs.Shown.{graph_view}
use Rattle.pk_runner_cases.specs.Places.{AreNumbers}
use Rattle.pk_runner_cases.proofs.Rows.{row_at}
use Rattle.pk_runner_cases.proofs.graphs.are_rows.Goals as goal

pub loop-number-preserved : goal.loop-number-preserved
loop-number-preserved c =
    below_more _ _ c.loop-number.invariant
    (row_at (graph_view c.args.graph.now) c.variables-variables.result.now c.index-variables-number.result c.args.rows.now c.index-rows-number.result c.loop-number.number
    c.variables-variables.ensures c.loop-number-test.true c.index-variables-number.is (omega (arith, c.loop-number-test.true, c.if-rows-variables.false)) c.index-rows-number.is
    (subst (AreNumbers _ _) c.deref.ensures.value (c.is_row.ensures c.if-not-is_row.false)))
