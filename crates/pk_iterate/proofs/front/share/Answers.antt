use Rattle.std.proofs.Common.{◌<◌, length}
use Rattle.std.specs.Arc.{arc_value}
use Rattle.std.proofs.lemmas.List.Elements.{All-get_or}
use Rattle.pk_iterate.proofs.Lists.{shared_more}
use Rattle.pk_iterate.proofs.front.share.Goals as goal

pub loop-u-preserved : goal.loop-u-preserved
loop-u-preserved g c =
    rw c.in_ok-push.ensures.items
    (shared_more arc_value c.loop-u.out.items c.args.cells.now c.args.elements.now c.loop-u.u-index _ c.index-cells-u.result c.loop-u-test.true c.loop-u.invariant
    (All-get_or (λ u. u < length c.args.cells.now) c.args.elements.now c.loop-u.u-index 0 c.loop-u-test.true c.requires)
    c.index-cells-u.is c.in_ok-clone.ensures.cases)
