use Rattle.std.proofs.Common.{subst, sym}
use Rattle.pk_octmat.specs.Octagon.{Octagon, entry}
use Rattle.pk_octclose.specs.Closing.{KeepsPoints}
use Rattle.pk_octagons.specs.Reduced.{by_range}
use Rattle.pk_octagons.proofs.Points.{turn_points, turn_none}
use Rattle.pk_octagons.proofs.turns.lower_ahead.Goals as goal

pub returns-in-Known-clause-value : goal.returns-in-Known-clause-value
returns-in-Known-clause-value c =
    let m = c.args.m.now in
    let k = c.args.k in
    let r = c.args.range.now in (
      c.lower_marked.ensures.marked c.in-Known.ensures.value.0,
      subst (λ (o : Octagon). KeepsPoints (entry (by_range m k r)) (entry o)) (sym c.lower_marked.ensures.value) (turn_points m c.close_ahead.new.m k r c.is_octagon.ensures c.requires.place c.in-Known.ensures.value.2),
    )

pub returns-in-Empty-clause-value : goal.returns-in-Empty-clause-value
returns-in-Empty-clause-value c = turn_none c.args.m.now c.args.k c.args.range.now c.is_octagon.ensures c.requires.place c.in-Empty.ensures.value
