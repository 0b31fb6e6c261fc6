use Rattle.std.proofs.Common.{sym, subst}
use Rattle.pk_interval.specs.Ranges.{IsIn}
use Rattle.pk_value.specs.Known.{Known}
use Rattle.pk_transfer.proofs.Refining.{met_in}
use Rattle.pk_transfer.proofs.guards.equal_to.Goals as goal

pub both-requires : goal.both-requires
both-requires c = rw c.meet.ensures.value (met_in c.args.t c.x.inside.interval c.v.inside.interval (subst (λ (k : Known). IsIn c.args.t k.range) (sym c.x.view_is) c.requires))
