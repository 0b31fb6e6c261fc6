use Rattle.std.proofs.Common.{◌<◌, ◌-◌, ◌∙◌, sym, length, slice_index_or, arith}
use Rattle.pk_number.proofs.AmongLemmas.{among_at}
use Rattle.pk_number.proofs.NumberLemmas.{numbers_begin, numbers_turn, numbers_end}
use Rattle.pk_number.proofs.walks.numbers_of.Goals as goal

pub index_mut-requires : goal.index_mut-requires
index_mut-requires c =
    let at : length c.args.order.now - 1 - c.loop-past.past < length c.args.order.now = omega arith in
    let below : slice_index_or c.args.order.now (length c.args.order.now - 1 - c.loop-past.past) 0 < c.args.count = c.requires _ (among_at c.args.order.now (length c.args.order.now - 1 - c.loop-past.past) 0 at) in
    omega (arith, below, c.loop-past.invariant.size, c.loop-past.numbers.ok.0)

pub loop-past-init : goal.loop-past-init
loop-past-init c = numbers_begin c.args.count c.args.order.now c.in_ok-numbers.numbers.items (sym c.in_ok-numbers.numbers.ok.0 ∙ c.in_ok-numbers.ensures.len)

pub loop-past-preserved : goal.loop-past-preserved
loop-past-preserved c = numbers_turn c.args.count c.args.order.now c.loop-past.past c.loop-past.numbers.items c.loop-past-test.true c.requires c.loop-past.invariant

pub returns : goal.returns
returns c = numbers_end c.args.count c.args.order.now c.loop-past.numbers.items c.loop-past.past c.loop-past-test.false c.loop-past.invariant
