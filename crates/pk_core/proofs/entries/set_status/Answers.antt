use Rattle.std.proofs.Common.{refl}
use Rattle.pk_core.specs.Entries.{with_new_status}
use Rattle.pk_core.proofs.Changed_at.{changed_set}
use Rattle.pk_core.proofs.entries.set_status.Goals as goal

pub returns : goal.returns
returns g c = changed_set c.args.entries.now c.args.e _ c.index-entries-e.result (with_new_status c.args.status) c.requires refl
