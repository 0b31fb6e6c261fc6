use Rattle.std.proofs.Common.{◌-◌}
use Rattle.pk_board.proofs.Item_asking.{OwnNoted}
use Rattle.pk_board.proofs.boards.Board.own_cell.Given as goal

abbrev pub ghosts-load_told : goal.ghosts-load_told
ghosts-load_told g a = record { told = OwnNoted (g.Y.System.meaning a.table.now.key.system) a.table.now.key.wiring (a.word - 2) }
