use Rattle.pk_words.specs.Told.{Offered}
use Rattle.pk_board.proofs.boards.Board.offer.Given as goal

abbrev pub ghosts-store_told : goal.ghosts-store_told
ghosts-store_told g a = record { told = Offered a.element }
