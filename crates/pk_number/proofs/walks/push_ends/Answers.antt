use Rattle.std.proofs.Common.{reverse}
use Rattle.pk_number.proofs.WaitLemmas.{push_begin, push_next, push_end}
use Rattle.pk_number.proofs.walks.push_ends.Goals as goal

pub loop-past-init : goal.loop-past-init
loop-past-init c = push_begin c.args.row.now (reverse c.args.waiting.now.items)

pub loop-past-preserved : goal.loop-past-preserved
loop-past-preserved c =
    push_next c.args.row.now c.loop-past.past _ c.loop-past.waiting.items c.push.new.self.items (reverse c.args.waiting.now.items) c.loop-past-test.true c.in_ok-push.ensures.items c.loop-past.invariant

pub returns : goal.returns
returns c = push_end c.args.row.now c.loop-past.past c.loop-past.waiting.items (reverse c.args.waiting.now.items) c.loop-past-test.false c.loop-past.invariant
