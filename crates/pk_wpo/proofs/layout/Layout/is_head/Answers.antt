use Rattle.std.proofs.Common.{arith}
use Rattle.pk_wpo.proofs.Kept.{heads_long, head_read}
use Rattle.pk_wpo.proofs.layout.Layout.is_head.Goals as goal

pub index-requires : goal.index-requires
index-requires c =
    let long = heads_long _ _ _ _ _ c.self.view_is c.self.invariant in
    omega (arith, long, c.requires)

pub returns : goal.returns
returns c = head_read _ _ _ _ _ c.args.v c.index.result.now c.self.view_is c.self.invariant c.requires c.index.ensures
