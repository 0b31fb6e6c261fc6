use Rattle.pk_words.specs.Told.{Armed}
use Rattle.pk_board.proofs.boards.Board.arm_member.Given as goal

abbrev pub ghosts-arm_told : goal.ghosts-arm_told
ghosts-arm_told g a = record { told = Armed a.exit a.left a.element }
