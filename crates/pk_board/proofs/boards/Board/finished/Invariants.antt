use Rattle.pk_plan.specs.Plans.{end_of}
use Rattle.pk_words.specs.Told.{Ended}
use Rattle.pk_board.proofs.boards.Board.finished.Given as goal

abbrev pub ghosts-load_told : goal.ghosts-load_told
ghosts-load_told g a = record { told = Ended (end_of a.table.now.key.wiring.plan) }
