use Rattle.std.proofs.Common.{◌∙◌, sym, arith}
use Rattle.std.proofs.lemmas.Int.{ints}
use Rattle.pk_octpoints.proofs.Near.{part_near}
use Rattle.pk_octpoints.proofs.Placed.{some_one}
use Rattle.pk_octpoints.proofs.Attained.{second_is, second_own}
use Rattle.pk_octpoints.proofs.Reached.{part_more, sum_near}
use Rattle.pk_octpoints.specs.Points.{number_at}
use Rattle.pk_octmat.specs.Octagon.{entry}
use Rattle.pk_octpoints.proofs.points.place_second.Goals as goal

pub returns-then-i-j-clause-part : goal.returns-then-i-j-clause-part
returns-then-i-j-clause-part c = part_more c.args.m.now 5 7 c.args.part.now (omega arith) c.requires.part

pub returns-then-i-j-clause-apart : goal.returns-then-i-j-clause-apart
returns-then-i-j-clause-apart c = second_own c.args.m.now.vars (entry c.args.m.now) (number_at c.args.part.now) c.requires.tight c.args.i c.args.j c.args.c c.requires.row c.requires.column c.requires.apart c.if-i-j.true c.requires.within c.requires.first

pub side-requires-clause-near : goal.side-requires-clause-near
side-requires-clause-near c = part_near c.args.m.now 5 c.args.part.now (omega arith) c.requires.part

pub place-requires-clause-part : goal.place-requires-clause-part
place-requires-clause-part c =
    let side = sym c.side.ensures.value ∙ sym c.number.ensures ∙ c.in-Some.is in
    let s = sum_near c.args.m.now 5 c.args.part.now c.args.i c.in-Some.from c.args.c c.requires.part side (c.requires.low, c.requires.high) in
    let low = s.0 in
    let high = s.1 in
    (6, omega arith, part_more c.args.m.now 5 6 c.args.part.now (omega arith) c.requires.part, (omega (arith, ints, low, high), omega (arith, ints, low, high)))

pub returns-in-Some-clause-part : goal.returns-in-Some-clause-part
returns-in-Some-clause-part c =
    let side = sym c.side.ensures.value ∙ sym c.number.ensures ∙ c.in-Some.is in
    let s = sum_near c.args.m.now 5 c.args.part.now c.args.i c.in-Some.from c.args.c c.requires.part side (c.requires.low, c.requires.high) in
    let low = s.0 in
    let high = s.1 in
    c.place.ensures.part 6 (part_more c.args.m.now 5 6 c.args.part.now (omega arith) c.requires.part) (omega (arith, ints, low, high), omega (arith, ints, low, high))

pub returns-in-Some-clause-apart : goal.returns-in-Some-clause-apart
returns-in-Some-clause-apart c =
    let side = sym c.side.ensures.value ∙ sym c.number.ensures ∙ c.in-Some.is in
    let s = sum_near c.args.m.now 5 c.args.part.now c.args.i c.in-Some.from c.args.c c.requires.part side (c.requires.low, c.requires.high) in
    let low = s.0 in
    let high = s.1 in
    let same = some_one c.requires.first.from c.in-Some.from (sym c.requires.first.here ∙ side) in
    second_is c.args.m.now.vars (entry c.args.m.now) (number_at c.args.part.now) (number_at c.place.new.part) c.requires.tight c.args.i c.args.j c.args.c _ c.requires.row c.requires.column c.if-i-j.false c.requires.within c.requires.first (omega (arith, ints, low, high, same)) c.place.ensures.here c.place.ensures.others
