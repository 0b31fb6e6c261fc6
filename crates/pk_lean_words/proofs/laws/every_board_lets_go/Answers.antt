use Rattle.pk_words.specs.Kinds.{kind_of}
use Rattle.pk_lean_words.proofs.Letting_go.{every_board_lets_go}
use Rattle.pk_lean_words.proofs.laws.every_board_lets_go.Goals as goal

pub returns : goal.returns
returns g c = every_board_lets_go (g.Y.System.meaning c.args.system.now) kind_of
