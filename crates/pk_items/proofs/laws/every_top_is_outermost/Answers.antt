use Rattle.pk_items.proofs.Outermost.{tops_are_outermost}
use Rattle.pk_items.proofs.laws.every_top_is_outermost.Goals as goal

pub returns : goal.returns
returns c = tops_are_outermost
