use Rattle.std.proofs.Common.{◌≡◌, ◌∙◌, ◌/◌, ◌%◌, ◌+◌, ◌*◌, ◌<◌, ap, subst, sym, arith, length}
use Rattle.std.specs.Prelude.{slice_get}
use Rattle.std.specs.Arc.{arc_value}
use Rattle.pk_blocks.specs.Rows.{flat, group_size}
use Rattle.pk_blocks.proofs.Flat.{get_taken, read_row, taken_size, placed}
use Rattle.pk_blocks.proofs.blocks.Blocks.row.Goals as goal

pub returns-clause-items : goal.returns-clause-items
returns-clause-items g c = λ r p q.
    let i = c.args.i in
    let bs = (arc_value c.self.inside.groups).items in
    let size = ap length (sym c.self.view_is) ∙ taken_size c.self.inside.count bs c.self.invariant.0 c.self.invariant.1 in
    let here : i + r < c.self.inside.count = omega (arith, size, q) in
    let is = placed c.self.inside.count (i + r) here in
    let at = rw c.deref.ensures at c.index.ensures in
    let group : (i + r) / 512 ≡ i / 512 = omega (arith, c.requires.first, p) in
    let place : (i + r) % 512 ≡ i % 512 + r = omega (arith, c.requires.first, p) in
    let n = c.self.inside.count in
    let there : i + r ≡ i / 512 * group_size n + (i % 512 + r) = is.at ∙ ap (λ k. k * group_size n + (i + r) % 512) group ∙ ap (λ k. i / 512 * group_size n + k) place in
    c.row.ensures.items r p
    ∙ sym (ap (λ xs. slice_get xs (i + r)) (sym c.self.view_is) ∙ get_taken n (flat bs) (i + r) here
    ∙ read_row (group_size n) bs (i + r) (i / 512) (i % 512 + r) c.index.result.now c.self.invariant.0 there (subst (λ k. k < length bs) group (omega (arith, c.self.invariant.1, is.group))) (subst (λ k. k < group_size n) place is.place) at)
