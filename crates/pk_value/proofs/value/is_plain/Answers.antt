use Rattle.pk_value.specs.Known.{Known}
use Rattle.pk_value.proofs.Tight.{all_tight, one_tight}
use Rattle.pk_value.proofs.value.is_plain.Goals as goal

pub returns-then-has_all : goal.returns-then-has_all
returns-then-has_all c _ =
    let k : Known = record { range = c.args.interval.now; class = c.args.congr.now } in
    let all = c.has_all.ensures c.if-has_all.true in
    all_tight k all.0 all.1

pub returns-else-has_all : goal.returns-else-has_all
returns-else-has_all c e =
    let k : Known = record { range = c.args.interval.now; class = c.args.congr.now } in
    let one = c.has_one.ensures e in
    one_tight k one.0 one.1 one.2
