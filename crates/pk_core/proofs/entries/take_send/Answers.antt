use Rattle.pk_core.specs.Entries.{without_send}
use Rattle.pk_core.proofs.Changed_at.{changed_set}
use Rattle.pk_core.proofs.entries.take_send.Goals as goal

pub returns : goal.returns
returns g c = changed_set c.args.entries.now c.args.u c.take_send_at.new.entry c.index-entries-u.result (without_send c.args.v) c.requires c.take_send_at.ensures
