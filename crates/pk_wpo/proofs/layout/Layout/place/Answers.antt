use Rattle.std.proofs.Common.{arith}
use Rattle.pk_wpo.proofs.Kept.{place_in_range, place_read}
use Rattle.pk_wpo.proofs.layout.Layout.place.Goals as goal

pub index-requires : goal.index-requires
index-requires c = let inside = place_in_range _ _ _ _ _ c.args.e c.self.view_is c.self.invariant c.requires in omega (arith, inside)

pub returns : goal.returns
returns c = place_read _ _ _ _ _ c.args.e c.index.result.now c.self.view_is c.self.invariant c.requires c.index.ensures
