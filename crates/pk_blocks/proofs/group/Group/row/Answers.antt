use Rattle.std.proofs.Common.{◌∙◌, ◌/◌, ◌+◌, ap, sym, arith, length}
use Rattle.std.specs.Prelude.{slice_get}
use Rattle.std.specs.Arc.{arc_value}
use Rattle.pk_blocks.proofs.Flat.{read_row, flat_length}
use Rattle.pk_blocks.proofs.group.Group.row.Goals as goal

pub index-requires : goal.index-requires
index-requires g c =
    let size = flat_length 16 (arc_value c.self.inside.blocks).items c.self.invariant in
    rw c.deref.ensures (omega (arith, size, ap length c.self.view_is, (arc_value c.self.inside.blocks).ok, c.requires.place))

pub returns-clause-items : goal.returns-clause-items
returns-clause-items g c = λ r p.
    let i = c.args.i in
    let bs = (arc_value c.self.inside.blocks).items in
    let at = rw c.deref.ensures at c.index.ensures in
    ap (λ xs. slice_get xs r) c.row.ensures.value
    ∙ sym (ap (λ xs. slice_get xs (i + r)) (sym c.self.view_is)
    ∙ read_row 16 bs (i + r) (i / 16) r c.index.result.now c.self.invariant (omega (arith, c.requires.first)) (omega (arith, flat_length 16 bs c.self.invariant, ap length c.self.view_is, c.requires.place)) p at)
