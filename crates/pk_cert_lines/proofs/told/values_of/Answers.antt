use Rattle.std.proofs.Common.{arith}
use Rattle.pk_cert_lines.proofs.Telling.{known_more, known_all}
use Rattle.pk_cert_lines.proofs.told.values_of.Goals as goal

pub loop-x-preserved : goal.loop-x-preserved
loop-x-preserved c =
    let s = c.args.state.now in
    known_more s.layout s.facts c.loop-x.x c.loop-x.values.items c.add_known.new.values.items c.is_stated.ensures.facts c.requires.some (omega (arith, c.loop-x-test.true, c.requires.many)) c.loop-x.invariant c.in_ok-add_known.ensures

pub returns : goal.returns
returns c =
    let s = c.args.state.now in
    known_all s.layout s.facts c.loop-x.x c.loop-x.values.items c.is_stated.ensures.facts c.requires.some (omega (arith, c.loop-x-test.false, c.loop-x.auto.x-end, c.requires.many)) c.loop-x.invariant
