use Rattle.std.specs.Int.{w128}
use Rattle.std.proofs.Common.{◌∙◌, ap, arith}
use Rattle.std.proofs.lemmas.Int.{ints, to_z-of_z}
use Rattle.std.specs.Int.RustNames.{FitsSigned}
use Rattle.pk_octmat.specs.Bounds.{halved}
use Rattle.pk_octmat.specs.Octagon.{bar, entry}
use Rattle.pk_octpoints.specs.Parts.{wish}
use Rattle.pk_octpoints.proofs.Attained.{first_is}
use Rattle.pk_octpoints.proofs.Reached.{none_part}
use Rattle.pk_octpoints.specs.Points.{number_at}
use Rattle.pk_octpoints.proofs.points.place_first.Goals as goal

pub place-requires-clause-part : goal.place-requires-clause-part
place-requires-clause-part c = (4, omega arith, none_part c.args.m.now 4 c.args.part.now c.requires.size c.requires.none, (omega (arith, ints, c.first_wish.ensures.low), omega (arith, ints, c.first_wish.ensures.high)))

pub returns-clause-part : goal.returns-clause-part
returns-clause-part c = c.place.ensures.part 4 (none_part c.args.m.now 4 c.args.part.now c.requires.size c.requires.none) (omega (arith, ints, c.first_wish.ensures.low), omega (arith, ints, c.first_wish.ensures.high))

pub returns-clause-first : goal.returns-clause-first
returns-clause-first c =
    let fits : FitsSigned w128 c.first_wish.result = record { sfits = c.first_wish.type_inv } in
    first_is c.args.m.now.vars (entry c.args.m.now) (number_at c.args.part.now) (number_at c.place.new.part) c.requires.tight c.requires.none c.args.i c.args.j c.args.c _ c.requires.row
    (to_z-of_z w128 c.first_wish.result fits ∙ c.first_wish.ensures.value ∙ ap (λ z. wish z (halved (entry c.args.m.now (bar c.args.j) c.args.j)) (entry c.args.m.now (bar c.args.i) c.args.j)) (to_z-of_z w128 c.args.c c.ranges.c))
    c.place.ensures.here c.place.ensures.others
