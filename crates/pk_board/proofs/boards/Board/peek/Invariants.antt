use Rattle.pk_words.specs.Kinds.{kind_of}
use Rattle.pk_words.specs.Told.{GivenBack}
use Rattle.pk_lean_words.specs.Members.{MemberTaken}
use Rattle.pk_board.proofs.boards.Board.peek.Given as goal

abbrev pub ghosts-input_told : goal.ghosts-input_told
ghosts-input_told g a = record { told = MemberTaken (g.Y.System.meaning a.table.now.key.system) a.table.now.key.wiring kind_of a.element a.slot }

abbrev pub ghosts-give_told : goal.ghosts-give_told
ghosts-give_told g a = record { told = GivenBack }
