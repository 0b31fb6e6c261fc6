use Rattle.pk_words.specs.Told.{StopFound}
use Rattle.pk_board.proofs.boards.Board.stopped.Given as goal

abbrev pub ghosts-load_told : goal.ghosts-load_told
ghosts-load_told g a = record { told = StopFound (g.Y.System.meaning a.table.now.key.system) a.table.now.key.wiring }
