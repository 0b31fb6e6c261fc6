use Rattle.pk_layout.specs.Layouts.{owner_of}
use Rattle.pk_words.specs.Kinds.{IsCellOf, kind_of}
use Rattle.pk_words.specs.Told.{InputTaken, GivenBack}
use Rattle.pk_board.proofs.boards.Board.input.Given as goal

abbrev pub ghosts-input_told : goal.ghosts-input_told
ghosts-input_told g a = record { told = InputTaken (g.Y.System.meaning a.table.now.key.system) a.table.now.key.wiring (IsCellOf kind_of) a.element a.run a.place (owner_of a.table.now.key.wiring.layout a.slot) a.slot }

abbrev pub ghosts-give_told : goal.ghosts-give_told
ghosts-give_told g a = record { told = GivenBack }
