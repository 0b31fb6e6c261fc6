use Rattle.pk_words.specs.Told.{Finished}
use Rattle.pk_board.proofs.boards.Board.done_last.Given as goal

abbrev pub ghosts-store_told : goal.ghosts-store_told
ghosts-store_told g a = record { told = Finished a.table.now.key.wiring.plan a.element }
