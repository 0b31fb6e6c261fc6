use Rattle.std.proofs.Common.{◌∙◌, ◌/◌, ◌%◌, ◌<◌, ap, sym, arith, length}
use Rattle.std.specs.Prelude.{slice_get}
use Rattle.std.specs.Arc.{arc_value}
use Rattle.pk_blocks.specs.Rows.{flat, group_size}
use Rattle.pk_blocks.proofs.Flat.{get_taken, read_at, taken_size, placed}
use Rattle.pk_blocks.proofs.blocks.Blocks.get.Goals as goal

pub returns : goal.returns
returns g c =
    let i = c.args.i in
    let bs = (arc_value c.self.inside.groups).items in
    let size = ap length (sym c.self.view_is) ∙ taken_size c.self.inside.count bs c.self.invariant.0 c.self.invariant.1 in
    let here : i < c.self.inside.count = omega (arith, size, c.requires) in
    let is = placed c.self.inside.count i here in
    let at = rw c.deref.ensures at c.index.ensures in
    ap (λ xs. slice_get xs i) (sym c.self.view_is) ∙ get_taken c.self.inside.count (flat bs) i here
    ∙ read_at (group_size c.self.inside.count) bs i (i / 512) (i % 512) c.index.result.now c.get.result c.self.invariant.0 is.at (omega (arith, c.self.invariant.1, is.group)) is.place at c.get.ensures
