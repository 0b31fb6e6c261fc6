use Rattle.pk_iterate.proofs.Held.{MayHold, held, held_values, held_read}
use Rattle.pk_iterate.proofs.laws.cells_are_held.Goals as goal

pub returns : goal.returns
returns g c =
    let b = g.Y.System.meaning c.args.system.now in
    let may_hold = g.Y.System.may_hold c.args.system.now in
    let laws : MayHold b may_hold = record { first = g.met.Y.System.first_held c.args.system.now; apply = g.met.Y.System.apply_held c.args.system.now; decide = g.met.Y.System.decide_held c.args.system.now } in
    record {
      cells = held b may_hold laws;
      values = held_values b may_hold laws;
      read = held_read b may_hold laws;
    }
