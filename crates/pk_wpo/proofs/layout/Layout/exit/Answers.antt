use Rattle.std.proofs.Common.{arith}
use Rattle.pk_wpo.proofs.Kept.{exit_in_range, exit_read}
use Rattle.pk_wpo.proofs.layout.Layout.exit.Goals as goal

pub index-requires : goal.index-requires
index-requires c = let below = c.requires in let inside = exit_in_range _ _ _ _ _ c.args.head c.self.view_is c.self.invariant (omega (arith, below)) in omega (arith, inside)

pub returns : goal.returns
returns c = let below = c.requires in exit_read _ _ _ _ _ c.args.head c.index.result.now c.self.view_is c.self.invariant (omega (arith, below)) c.index.ensures
