use Rattle.pk_iterate.proofs.Held.{MayHold}
use Rattle.pk_iterate.proofs.Falling.{falling_ends}
use Rattle.pk_iterate.proofs.laws.falling_turns_end.Goals as goal

pub returns : goal.returns
returns g c =
    let b = g.Y.System.meaning c.args.system.now in
    let may_hold = g.Y.System.may_hold c.args.system.now in
    let laws : MayHold b may_hold = record { first = g.met.Y.System.first_held c.args.system.now; apply = g.met.Y.System.apply_held c.args.system.now; decide = g.met.Y.System.decide_held c.args.system.now } in
    falling_ends b may_hold laws
