use Rattle.std.proofs.Common.{length}
use Rattle.pk_board_tests.proofs.lean.+values.Given as goal

abbrev pub decreases-values : goal.decreases-values
decreases-values l = length l.cells.now
