use Rattle.std.proofs.Common.{arith}
use Rattle.std.proofs.lemmas.Int.{ints}
use Rattle.pk_octpoints.specs.Points.{number_at}
use Rattle.pk_octpoints.proofs.Reached.{even_side}
use Rattle.pk_octpoints.proofs.points.place_rest.Goals as goal

pub returns-in-None-clause-part : goal.returns-in-None-clause-part
returns-in-None-clause-part c = λ n h. c.place.ensures.part n h (omega (arith, ints), omega (arith, ints))

pub returns-in-None-clause-there : goal.returns-in-None-clause-there
returns-in-None-clause-there c = (_, even_side (number_at c.place.new.part) c.args.k _ c.place.ensures.here)
