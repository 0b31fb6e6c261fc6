use Rattle.std.proofs.Common.{ap, length, ◌∙◌}
use Rattle.std.proofs.lemmas.List.FromFn.{length-map-range_with_len}
use Rattle.pk_board_tests.proofs.ends.closed.Goals as goal

pub returns : goal.returns
returns c =
    let h = c.requires.ends in
    let left = c.close.ensures h.0 h.1 h.2 in
    record {
      cells = ap length left.cells ∙ length-map-range_with_len _ 0 _;
      runs = ap length left.runs ∙ length-map-range_with_len _ 0 _;
    }
