use Rattle.std.proofs.Common.{◌-◌}
use Rattle.pk_words.specs.Told.{Noted, Claimed}
use Rattle.pk_board.proofs.boards.Board.claim.Given as goal

abbrev pub ghosts-load_told : goal.ghosts-load_told
ghosts-load_told g a = record { told = Noted (a.word - 2) }

abbrev pub ghosts-exchange_told : goal.ghosts-exchange_told
ghosts-exchange_told g a = record { told = Claimed (g.Y.System.meaning a.table.now.key.system) a.table.now.key.wiring a.element a.asked }
