use Rattle.std.proofs.Common.{refl}
use Rattle.pk_core.proofs.Changed_at.{changed_set}
use Rattle.pk_core.proofs.entries.set_sends.Goals as goal

pub returns : goal.returns
returns g c = changed_set c.args.entries.now c.args.e _ _ _ c.requires refl
