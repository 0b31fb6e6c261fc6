use Rattle.pk_board_tests.proofs.runs.+arm_all.Given as goal

abbrev pub decreases-arm_all : goal.decreases-arm_all
decreases-arm_all l = l.resetting.left
