use Rattle.std.proofs.Common.{◌∙◌, ◌/◌, ◌%◌, ap, sym, arith, length}
use Rattle.std.specs.Prelude.{slice_get}
use Rattle.std.specs.Arc.{arc_value}
use Rattle.pk_blocks.proofs.Flat.{read_at, flat_length}
use Rattle.pk_blocks.proofs.group.Group.get.Goals as goal

pub index-requires : goal.index-requires
index-requires g c =
    let size = flat_length 16 (arc_value c.self.inside.blocks).items c.self.invariant in
    rw c.deref.ensures (omega (arith, size, ap length c.self.view_is, (arc_value c.self.inside.blocks).ok, c.requires))

pub returns : goal.returns
returns g c =
    let i = c.args.i in
    let at = rw c.deref.ensures at c.index.ensures in
    ap (λ xs. slice_get xs i) (sym c.self.view_is)
    ∙ read_at 16 (arc_value c.self.inside.blocks).items i (i / 16) (i % 16) c.index.result.now c.get.result c.self.invariant (omega arith) (omega (arith, flat_length 16 (arc_value c.self.inside.blocks).items c.self.invariant, ap length c.self.view_is, c.requires)) (omega arith) at c.get.ensures
