use Rattle.pk_peak.proofs.Reading.{own_more, own_all}
use Rattle.pk_peak.proofs.readers.own.Goals as goal

pub loop-item-preserved : goal.loop-item-preserved
loop-item-preserved c = own_more c.loop-item.item c.loop-item.items.items c.push.new.self.items c.in_ok-push.ensures.items c.loop-item.invariant

pub returns : goal.returns
returns c = own_all c.loop-item.item c.args.count c.loop-item.items.items c.loop-item.auto.item-end c.loop-item-test.false c.loop-item.invariant
