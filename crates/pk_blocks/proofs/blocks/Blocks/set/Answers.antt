use Rattle.std.proofs.Common.{◌∙◌, ◌/◌, ◌%◌, ◌<◌, ap, sym, subst, length, take, set}
use Rattle.std.specs.Arc.{arc_value}
use Rattle.std.proofs.Math.ListN.{length-set}
use Rattle.pk_blocks.specs.Rows.{flat, AreRows, group_size}
use Rattle.pk_blocks.proofs.Flat.{set_taken, write_at, taken_size, placed, row_long, rows_set}
use Rattle.pk_blocks.proofs.blocks.Blocks.set.Goals as goal

pub with-requires : goal.with-requires
with-requires g c =
    let i = c.args.i in
    let n = c.self.inside.count in
    let bs = (arc_value c.self.inside.groups).items in
    let size = ap length (sym c.self.view_is) ∙ taken_size n bs c.self.invariant.0 c.self.invariant.1 in
    let is = placed n i (subst (λ m. i < m) size c.requires) in
    let at = rw c.deref.ensures at c.index.ensures in
    subst (λ m. i % 512 < m) (sym (row_long (group_size n) bs (i / 512) c.index.result.now c.self.invariant.0 (subst (λ m. i / 512 < m) (sym c.self.invariant.1) is.group) at)) is.place

pub with_group-requires : goal.with_group-requires
with_group-requires g c =
    let i = c.args.i in
    let n = c.self.inside.count in
    let bs = (arc_value c.self.inside.groups).items in
    let size = ap length (sym c.self.view_is) ∙ taken_size n bs c.self.invariant.0 c.self.invariant.1 in
    let is = placed n i (subst (λ m. i < m) size c.requires) in
    let old = rw c.deref-2.ensures at c.deref-3.ensures.value in
    subst (λ m. i / 512 < m) (sym (ap length old ∙ c.self.invariant.1)) is.group

pub invariant_of-self : goal.invariant_of-self
invariant_of-self g c =
    let i = c.args.i in
    let k = i / 512 in
    let n = c.self.inside.count in
    let bs = (arc_value c.self.inside.groups).items in
    let size = ap length (sym c.self.view_is) ∙ taken_size n bs c.self.invariant.0 c.self.invariant.1 in
    let is = placed n i (subst (λ m. i < m) size c.requires) in
    let at = rw c.deref.ensures at c.index.ensures in
    let old = rw c.deref-2.ensures at c.deref-3.ensures.value in
    let made = c.in_ok-groups.ensures ∙ ap (λ xs. set xs k c.in_ok-group.group) old in
    let long = ap length c.in_ok-group.ensures ∙ length-set c.index.result.now (i % 512) c.args.item ∙ row_long (group_size n) bs k c.index.result.now c.self.invariant.0 (subst (λ m. k < m) (sym c.self.invariant.1) is.group) at in
    rw c.in_ok-self-inside.ensures.ok (
      subst (AreRows (group_size n)) (sym made) (rows_set (group_size n) bs k c.in_ok-group.group c.self.invariant.0 long),
      ap length made ∙ length-set bs k c.in_ok-group.group ∙ c.self.invariant.1,
      c.self.invariant.2,
    )

pub returns-clause-ok : goal.returns-clause-ok
returns-clause-ok g c =
    let i = c.args.i in
    let n = c.self.inside.count in
    let bs = (arc_value c.self.inside.groups).items in
    let size = ap length (sym c.self.view_is) ∙ taken_size n bs c.self.invariant.0 c.self.invariant.1 in
    let is = placed n i (subst (λ m. i < m) size c.requires) in
    let k = i / 512 in
    let at = rw c.deref.ensures at c.index.ensures in
    let old = rw c.deref-2.ensures at c.deref-3.ensures.value in
    let made = c.in_ok-groups.ensures ∙ ap (λ xs. set xs k c.in_ok-group.group) old ∙ ap (λ b. set bs k b) c.in_ok-group.ensures in
    rw c.in_ok-self-inside.ensures.ok
    (ap (λ gs. take n (flat gs)) made
    ∙ ap (take n) (write_at (group_size n) bs i k (i % 512) c.index.result.now c.args.item c.self.invariant.0 is.at (subst (λ m. k < m) (sym c.self.invariant.1) is.group) is.place at)
    ∙ set_taken n (flat bs) i c.args.item ∙ ap (λ xs. set xs i c.args.item) c.self.view_is)
