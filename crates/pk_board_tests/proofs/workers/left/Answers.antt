use Rattle.std.proofs.Common.{ap, length, ◌∙◌}
use Rattle.std.proofs.lemmas.Result.{IfOk-weaker}
use Rattle.std.proofs.lemmas.List.FromFn.{length-map-range_with_len}
use Rattle.pk_board_tests.proofs.workers.left.Goals as goal

pub returns : goal.returns
returns g c =
    let h = c.requires.ends in
    IfOk-weaker c.run_workers.result _ _ (λ it r. record {
      cells = ap length (r h.0 h.1 h.2).cells_after ∙ length-map-range_with_len _ 0 _;
      runs = ap length (r h.0 h.1 h.2).counts ∙ length-map-range_with_len _ 0 _;
    }) c.run_workers.ensures.ok
