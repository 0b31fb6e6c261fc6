use Rattle.pk_interval.proofs.Numbers.{product_is, product_from, back}
use Rattle.pk_interval.proofs.scalars.times.Goals as goal

pub returns : goal.returns
returns c =
    product_is c.args.x c.args.y c.checked_mul.result
    (product_from c.args.t c.args.x c.args.y c.requires.left c.requires.right)
    (back c.args.x c.args.y c.checked_mul.result c.ranges.x c.ranges.y c.checked_mul.ensures)
