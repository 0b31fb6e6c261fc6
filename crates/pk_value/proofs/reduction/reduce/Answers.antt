use Rattle.pk_value.proofs.Reducing.{red_lies, red_inside, red_class}
use Rattle.pk_value.proofs.reduction.reduce.Goals as goal

pub returns-clause-within : goal.returns-clause-within
returns-clause-within c = rw c.reduced.ensures (red_lies c.args.interval.now c.args.congr.now c.reduced_law.ensures.from)

pub returns-clause-inside : goal.returns-clause-inside
returns-clause-inside c = rw c.reduced.ensures (red_inside c.args.t c.args.interval.now c.args.congr.now c.requires c.reduced_law.ensures.from)

pub returns-clause-class : goal.returns-clause-class
returns-clause-class c = rw c.reduced.ensures (red_class c.args.t c.args.interval.now c.args.congr.now c.requires c.reduced_law.ensures)
