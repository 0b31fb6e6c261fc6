use Rattle.std.proofs.Common.{length}
use Rattle.pk_core_tests.proofs.drives.+row_within.Given as goal

abbrev pub decreases-row_within : goal.decreases-row_within
decreases-row_within l = length l.row.now
