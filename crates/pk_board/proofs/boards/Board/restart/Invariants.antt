use Rattle.pk_words.specs.Told.{Restarted}
use Rattle.pk_board.proofs.boards.Board.restart.Given as goal

abbrev pub ghosts-store_told : goal.ghosts-store_told
ghosts-store_told g a = record { told = Restarted a.table.now.key.wiring.plan a.element }
