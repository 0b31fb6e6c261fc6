use Rattle.pk_words.specs.Told.{Sent}
use Rattle.pk_board.proofs.boards.Board.arrive.Given as goal

abbrev pub ghosts-decrement_told : goal.ghosts-decrement_told
ghosts-decrement_told g a = record { told = Sent (g.Y.System.meaning a.table.now.key.system) a.table.now.key.wiring a.element a.sent }
