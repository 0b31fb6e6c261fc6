use Rattle.std.proofs.Common.{◌<◌, length}
use Rattle.std.proofs.lemmas.List.Elements.{All-get_or}
use Rattle.pk_core.proofs.Changed_at.{shared_more}
use Rattle.pk_core.proofs.entries.shared.Goals as goal

pub loop-u-preserved : goal.loop-u-preserved
loop-u-preserved g c =
    rw c.in_ok-push.ensures.items
    (shared_more c.loop-u.out.items c.args.entries.now c.args.elements.now c.loop-u.u-index _ c.index-entries-u.result c.loop-u-test.true c.loop-u.invariant
    (All-get_or (λ u. u < length c.args.entries.now) c.args.elements.now c.loop-u.u-index 0 c.loop-u-test.true c.requires)
    c.in_ok-clone.ensures.cases)
