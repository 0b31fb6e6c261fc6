use Rattle.std.proofs.Common.{arith}
use Rattle.pk_wpo.proofs.Kept.{place_in_range, place_read, home_in_range, home_read}
use Rattle.pk_wpo.proofs.layout.Layout.home.Goals as goal

pub index-requires : goal.index-requires
index-requires c = let below = c.requires in let inside = place_in_range _ _ _ _ _ c.args.e c.self.view_is c.self.invariant (omega (arith, below)) in omega (arith, inside)

pub index-requires-2 : goal.index-requires-2
index-requires-2 c =
    let below = c.requires in
    let is = place_read _ _ _ _ _ c.args.e c.index.result.now c.self.view_is c.self.invariant (omega (arith, below)) c.index.ensures in
    let inside = home_in_range _ _ _ _ _ c.args.e c.index.result.now c.self.view_is c.self.invariant below is in
    omega (arith, inside)

pub returns : goal.returns
returns c =
    let below = c.requires in
    let is = place_read _ _ _ _ _ c.args.e c.index.result.now c.self.view_is c.self.invariant (omega (arith, below)) c.index.ensures in
    home_read _ _ _ _ _ c.args.e c.index.result.now c.index-2.result.now c.self.view_is c.self.invariant below is c.index-2.ensures
