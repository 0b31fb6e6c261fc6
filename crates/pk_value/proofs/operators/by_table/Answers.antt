use Rattle.pk_value.proofs.Sound.{compared_wraps}
use Rattle.pk_value.proofs.operators.by_table.Goals as goal

pub fit-requires : goal.fit-requires
fit-requires c = rw c.compare-found.ensures (compared_wraps c.args.op _ _ c.binary.result c.binary.ensures.least)
