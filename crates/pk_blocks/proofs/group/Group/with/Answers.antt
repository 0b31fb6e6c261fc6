use Rattle.std.proofs.Common.{◌∙◌, ◌/◌, ◌%◌, ap, arith, length, set}
use Rattle.std.specs.Arc.{arc_value}
use Rattle.std.proofs.lemmas.Result.{IfOk-weaker}
use Rattle.pk_blocks.specs.Rows.{flat}
use Rattle.pk_blocks.proofs.Flat.{write_at, flat_length}
use Rattle.pk_blocks.proofs.group.Group.with.Goals as goal

pub index-requires : goal.index-requires
index-requires g c =
    let size = flat_length 16 (arc_value c.self.inside.blocks).items c.self.invariant in
    rw c.deref.ensures (omega (arith, size, ap length c.self.view_is, (arc_value c.self.inside.blocks).ok, c.requires))

pub with_block-requires : goal.with_block-requires
with_block-requires g c =
    let old = rw c.deref-2.ensures at c.deref-3.ensures.value in
    omega (arith, flat_length 16 (arc_value c.self.inside.blocks).items c.self.invariant, ap length c.self.view_is, ap length old, c.requires)

pub returns : goal.returns
returns g c =
    let i = c.args.i in
    let k = i / 16 in
    let bs = (arc_value c.self.inside.blocks).items in
    let at = rw c.deref.ensures at c.index.ensures in
    let old = rw c.deref-2.ensures at c.deref-3.ensures.value in
    let is = c.in_ok-with_block.ensures ∙ ap (λ xs. set xs k c.in_ok-block.block) old ∙ ap (λ b. set bs k b) c.in_ok-block.ensures in
    let all = ap flat is ∙ write_at 16 bs i k (i % 16) c.index.result.now c.args.item c.self.invariant (omega arith) (omega (arith, flat_length 16 bs c.self.invariant, ap length c.self.view_is, c.requires)) (omega arith) at ∙ ap (λ xs. set xs i c.args.item) c.self.view_is in
    IfOk-weaker c.made.result _ _ (λ m h. h ∙ all) c.made.ensures
