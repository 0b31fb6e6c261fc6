use Rattle.std.proofs.Common.{ap, length, ◌∙◌}
use Rattle.std.proofs.lemmas.Result.{IfOk-weaker}
use Rattle.std.proofs.lemmas.List.FromFn.{length-map-range_with_len}
use Rattle.pk_core_tests.proofs.plans.iterated.Goals as goal

pub returns-clause-cells : goal.returns-clause-cells
returns-clause-cells c = IfOk-weaker c.iterate.result _ _ (λ it r. ap length r.cells_after ∙ length-map-range_with_len _ 0 _) c.iterate.ensures.ok

pub returns-clause-runs : goal.returns-clause-runs
returns-clause-runs c = IfOk-weaker c.iterate.result _ _ (λ it r. ap length r.counts ∙ length-map-range_with_len _ 0 _) c.iterate.ensures.ok
