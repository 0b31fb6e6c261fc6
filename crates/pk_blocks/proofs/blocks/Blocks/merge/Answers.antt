use Rattle.std.proofs.Common.{◌≡◌, ◌∙◌, ap, sym, subst, arith, length, take, ◌+◌, ◌-◌, ◌*◌, ◌/◌}
use Rattle.std.specs.Arc.{arc_value}
use Rattle.pk_blocks.specs.Rows.{flat, AreRows, merged_from, below, group_size}
use Rattle.pk_blocks.proofs.Flat.{taken_size}
use Rattle.pk_blocks.proofs.Merging.{merged-take, merged_first}
use Rattle.pk_blocks.proofs.blocks.Blocks.merge.Goals as goal

pub merge_groups-requires-clause-others : goal.merge_groups-requires-clause-others
merge_groups-requires-clause-others g c =
    let n = c.self.inside.count in
    let ys = (arc_value c.other.inside.groups).items in
    let left = ap length (sym c.self.view_is) ∙ taken_size n (arc_value c.self.inside.groups).items c.self.invariant.0 c.self.invariant.1 in
    let right = ap length (sym c.other.view_is) ∙ taken_size c.other.inside.count ys c.other.invariant.0 c.other.invariant.1 in
    let same : c.other.inside.count ≡ n = omega (arith, left, right, c.requires) in
    let second = rw c.deref-3.ensures at c.deref-4.ensures.value in
    subst (AreRows (group_size n)) (sym second) (subst (λ k. AreRows (group_size k) ys) same c.other.invariant.0)

pub merge_groups-requires-clause-counted : goal.merge_groups-requires-clause-counted
merge_groups-requires-clause-counted g c =
    let left = ap length (sym c.self.view_is) ∙ taken_size c.self.inside.count (arc_value c.self.inside.groups).items c.self.invariant.0 c.self.invariant.1 in
    let right = ap length (sym c.other.view_is) ∙ taken_size c.other.inside.count (arc_value c.other.inside.groups).items c.other.invariant.0 c.other.invariant.1 in
    let second = rw c.deref-3.ensures at c.deref-4.ensures.value in
    omega (arith, left, right, c.requires, c.other.invariant.1, ap length second)

pub returns : goal.returns
returns g c =
    let n = c.self.inside.count in
    let f = g.M.Merge.merged c.args.by.now in
    let limit = (n + 16 - 1) / 16 * 16 in
    let h = below limit f in
    let xs = (arc_value c.self.inside.groups).items in
    let ys = (arc_value c.other.inside.groups).items in
    let left = ap length (sym c.self.view_is) ∙ taken_size n xs c.self.invariant.0 c.self.invariant.1 in
    let right = ap length (sym c.other.view_is) ∙ taken_size c.other.inside.count ys c.other.invariant.0 c.other.invariant.1 in
    let same : n ≡ c.other.inside.count = omega (arith, left, right, c.requires) in
    let first = rw c.deref.ensures at c.deref-2.ensures.value in
    let second = rw c.deref-3.ensures at c.deref-4.ensures.value in
    rw c.in_ok-new.ensures.ok
    (ap (take n) (c.in_ok-groups.ensures.value ∙ ap (λ t. merged_from h 0 (flat t) (flat c.deref-4.result.now)) first ∙ ap (λ t. merged_from h 0 (flat xs) (flat t)) second)
    ∙ merged_first limit n f 0 (flat xs) (flat ys) (omega arith)
    ∙ sym (merged-take f 0 n (flat xs) (flat ys)) ∙ ap (λ t. merged_from f 0 t (take n (flat ys))) c.self.view_is
    ∙ ap (λ t. merged_from f 0 c.args.self.now t) (ap (λ k. take k (flat ys)) same ∙ c.other.view_is))
