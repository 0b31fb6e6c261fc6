use Rattle.pk_words.specs.Told.{Taken}
use Rattle.pk_board.proofs.boards.Board.leave.Given as goal

abbrev pub ghosts-take_told : goal.ghosts-take_told
ghosts-take_told g a = record { told = Taken (λ x. Unit {0}) a.slot }
