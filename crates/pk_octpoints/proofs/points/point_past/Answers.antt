use Rattle.std.proofs.Common.{subst, arith}
use Rattle.std.proofs.lemmas.Int.{ints}
use Rattle.pk_octpoints.specs.Points.{IsPoint}
use Rattle.pk_octpoints.proofs.Numbers.{if_ok}
use Rattle.pk_octpoints.proofs.points.point_past.Goals as goal

pub returns : goal.returns
returns c = if_ok c.reach.result _ _ (λ xs p. subst (λ z. IsPoint c.args.m.now c.args.i c.args.j z xs.items) (omega (arith, ints)) p) c.reach.ensures
