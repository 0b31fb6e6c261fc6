use Rattle.pk_items.proofs.Sweeping.{others_always_leave_alone}
use Rattle.pk_items.proofs.laws.others_leave_alone.Goals as goal

pub returns : goal.returns
returns g c = others_always_leave_alone (g.Y.System.meaning c.args.system.now)
