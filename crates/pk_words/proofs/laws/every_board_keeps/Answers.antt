use Rattle.pk_words.specs.Kinds.{HasValue, kind_of}
use Rattle.pk_words.proofs.Keeping.{every_board}
use Rattle.pk_words.proofs.laws.every_board_keeps.Goals as goal

pub returns : goal.returns
returns g c = every_board (g.Y.System.meaning c.args.system.now) (HasValue kind_of)
