use Rattle.std.proofs.Common.{length}
use Rattle.pk_board_tests.proofs.summing.+zipped.Given as goal

abbrev pub decreases-zipped : goal.decreases-zipped
decreases-zipped l = length l.points.now
