use Rattle.pk_core.specs.Entries.{with_arrival}
use Rattle.pk_core.proofs.Changed_at.{changed_set}
use Rattle.pk_core.proofs.entries.arrive.Goals as goal

pub returns : goal.returns
returns g c = changed_set c.args.entries.now c.args.v c.arrive_at.new.entry c.index-entries-v.result with_arrival c.requires c.arrive_at.ensures
