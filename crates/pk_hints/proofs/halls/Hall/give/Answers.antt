use Rattle.pk_hints.proofs.Kept.{all_one, pushes}
use Rattle.pk_hints.proofs.halls.Hall.give.Goals as goal

pub push_as-requires-clause-pushes : goal.push_as-requires-clause-pushes
push_as-requires-clause-pushes g c = pushes g.B.Bound.elements _ tt _ (all_one g.B.Bound.elements c.args.element c.requires)
