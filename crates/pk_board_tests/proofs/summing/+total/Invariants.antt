use Rattle.std.proofs.Common.{length}
use Rattle.pk_board_tests.proofs.summing.+total.Given as goal

abbrev pub decreases-total : goal.decreases-total
decreases-total l = length l.cells.now
