use Rattle.std.specs.Prelude.{◌+◌, ◌≡◌}
use Rattle.std.proofs.Common.{ap, subst, arith}
use Rattle.pk_octpoints.specs.Points.{IsPart}
use Rattle.pk_octpoints.proofs.Near.{part_near}
use Rattle.pk_octpoints.proofs.Reached.{there_more}
use Rattle.pk_octmat.specs.Octagon.{Octagon}
use Rattle.pk_octpoints.proofs.points.place_all.Goals as goal

pub loop-k-preserved : goal.loop-k-preserved
loop-k-preserved c = record {
  part = subst (λ n. IsPart c.args.m.now n c.place_rest.new.part) (omega arith) (c.place_rest.ensures.part (7 + c.loop-k.k) c.loop-k.invariant.part);
  kept = λ q v h. c.place_rest.ensures.kept q v (c.loop-k.invariant.kept q v h);
  there = there_more c.loop-k.part c.place_rest.new.part c.loop-k.k c.loop-k.invariant.there c.place_rest.ensures.kept c.place_rest.ensures.there;
}

pub returns-clause-near : goal.returns-clause-near
returns-clause-near c =
    let same : c.m.inside.vars ≡ c.args.m.now.vars = ap (λ (o : Octagon). o.vars) c.m.view_is in
    let few = c.is_octagon.ensures.few in
    let end = c.loop-k.auto.k-end in
    part_near c.args.m.now (7 + c.loop-k.k) c.loop-k.part (omega (arith, same, few, end)) c.loop-k.invariant.part
