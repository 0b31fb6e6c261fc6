use Rattle.std.proofs.Common.{ap, length, ◌∙◌}
use Rattle.std.proofs.lemmas.Result.{IfOk-weaker}
use Rattle.std.proofs.lemmas.List.FromFn.{length-map-range_with_len}
use Rattle.pk_board_tests.proofs.plans.iterated.Goals as goal

pub returns-clause-each : goal.returns-clause-each
returns-clause-each c = IfOk-weaker c.iterate.result _ _ (λ it r. record {
  cells = ap length r.cells_after ∙ length-map-range_with_len _ 0 _ ∙ c.requires.elements;
  runs = ap length r.counts ∙ length-map-range_with_len _ 0 _ ∙ c.requires.elements;
}) c.iterate.ensures.ok
