use Rattle.pk_phases.proofs.Planned_turns.{linear_order_ends}
use Rattle.pk_phases.proofs.laws.linear_order_ends.Goals as goal

pub returns : goal.returns
returns g c = linear_order_ends (g.E.Equate.meaning c.args.equations.now) (g.E.Equate.held c.args.equations.now) (g.E.Equate.keeps c.args.equations.now)
