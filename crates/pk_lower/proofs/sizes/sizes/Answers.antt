use Rattle.std.proofs.Common.{◌≡◌, ◌∙◌, ◌+◌, ◌-◌, ℕ, ap, sym, drop, replicate, rules, arith}
use Rattle.std.specs.Prelude.{None}
use Rattle.std.proofs.lemmas.List.{with_items_is}
use Rattle.pk_typed.specs.Views.{unit_tree}
use Rattle.pk_lower.specs.Parts.{sizes_of}
use Rattle.pk_lower.proofs.SizeLemmas.{no_sizes, sizes_next}
use Rattle.pk_lower.proofs.sizes.sizes.Goals as goal

pub loop-path-init : goal.loop-path-init
loop-path-init c =
    let items : c.in_ok-sizes.sizes.items ≡ replicate c.len.result None = search rules in
    no_sizes c.args.unit.now c.args.paths.now c.len.result c.len-path.result _ (omega arith) c.len-path.ensures items

pub loop-path-preserved : goal.loop-path-preserved
loop-path-preserved c =
    let next : c.loop-path.path - 1 + 1 ≡ c.loop-path.path = omega arith in
    with_items_is c.loop-path.sizes c.measure.new.sizes (c.measure.auto.sizes ∙ c.deref_mut.ensures.len)
    ∙ sizes_next (unit_tree c.args.unit.now) c.args.paths.now (c.loop-path.path - 1) c.path.result c.deref_mut.result.now c.measure.new.sizes c.path.ensures
    (c.deref_mut.ensures.value ∙ c.loop-path.invariant ∙ ap (λ (k : ℕ). sizes_of (unit_tree c.args.unit.now) (drop k c.args.paths.now)) (sym next))
    c.in_ok-measure.ensures
