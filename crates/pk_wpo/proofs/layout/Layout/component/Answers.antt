use Rattle.std.proofs.Common.{arith}
use Rattle.pk_wpo.proofs.Placed.{head_vertex, exit_before_end}
use Rattle.pk_wpo.proofs.layout.Layout.component.Goals as goal

pub exit-exit-requires : goal.exit-exit-requires
exit-exit-requires c = head_vertex c.args.self.now c.args.head c.args.head c.laid.ensures c.requires

pub place-requires : goal.place-requires
place-requires c = let below = head_vertex c.args.self.now c.args.head c.args.head c.laid.ensures c.requires in omega (arith, below)

pub place-requires-2 : goal.place-requires-2
place-requires-2 c =
    let below = exit_before_end c.args.self.now c.args.head c.args.head c.laid.ensures c.requires in
    omega (arith, below, c.exit-exit.ensures)
