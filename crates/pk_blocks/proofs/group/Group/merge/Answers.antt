use Rattle.std.proofs.Common.{ap, arith, length}
use Rattle.std.specs.Arc.{arc_value}
use Rattle.pk_blocks.proofs.Flat.{flat_length}
use Rattle.pk_blocks.proofs.group.Group.merge.Goals as goal

pub merge_blocks-requires-clause-count : goal.merge_blocks-requires-clause-count
merge_blocks-requires-clause-count g c =
    let first = rw c.deref.ensures at c.deref-2.ensures.value in
    let second = rw c.deref-3.ensures at c.deref-4.ensures.value in
    let left = flat_length 16 (arc_value c.self.inside.blocks).items c.self.invariant in
    let right = flat_length 16 (arc_value c.other.inside.blocks).items c.other.invariant in
    omega (arith, ap length first, ap length second, left, right, ap length c.self.view_is, ap length c.other.view_is, c.requires.count)

pub merge_blocks-requires-clause-room : goal.merge_blocks-requires-clause-room
merge_blocks-requires-clause-room g c =
    let first = rw c.deref.ensures at c.deref-2.ensures.value in
    omega (arith, ap length first, flat_length 16 (arc_value c.self.inside.blocks).items c.self.invariant, ap length c.self.view_is, c.requires.room)
