use Rattle.pk_words.specs.Told.{HeadArmed}
use Rattle.pk_board.proofs.boards.Board.arm_head.Given as goal

abbrev pub ghosts-arm_head_told : goal.ghosts-arm_head_told
ghosts-arm_head_told g a = record { told = HeadArmed (g.Y.System.meaning a.table.now.key.system) a.table.now.key.wiring a.exit a.element }
