use Rattle.std.specs.Int.{w128}
use Rattle.std.proofs.Common.{subst}
use Rattle.std.proofs.lemmas.Int.{to_z-of_z}
use Rattle.pk_octpoints.specs.Parts.{AreApart}
use Rattle.pk_octpoints.specs.Points.{number_at}
use Rattle.pk_octpoints.proofs.Numbers.{if_ok, reached}
use Rattle.pk_octpoints.proofs.points.reach_in.Goals as goal

pub returns : goal.returns
returns c =
    let apart = subst (λ z. AreApart c.args.i c.args.j z (number_at c.place_second.new.part)) (to_z-of_z w128 c.args.c c.ranges.c) c.place_second.ensures.apart in
    if_ok c.numbers.result _ _
    (λ xs e. reached c.args.m.now c.place_second.new.part c.place_all.new.part xs.items c.args.i c.args.j c.args.c c.requires.row c.requires.column apart c.place_all.ensures.kept c.place_all.ensures.size c.place_all.ensures.near c.place_all.ensures.meets c.place_all.ensures.there e)
    c.numbers.ensures
