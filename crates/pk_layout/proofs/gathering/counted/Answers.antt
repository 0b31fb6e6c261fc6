use Rattle.std.proofs.Common.{◌≡◌, ℕ, ◌+◌, ◌<◌, length, get_or, ap, ◌∙◌, arith}
use Rattle.std.proofs.lemmas.Grind.{get_or_default_zero}
use Rattle.std.proofs.lemmas.List.{length-set}
use Rattle.std.proofs.lemmas.List.Elements.{All-get_or}
use Rattle.std.proofs.lemmas.List.Sums.{get_or-le-sum_by}
use Rattle.pk_layout.proofs.Counting.{counted_more, sum_one_more}
use Rattle.pk_layout.proofs.gathering.counted.Goals as goal

pub overflow_add-index_mut : goal.overflow_add-index_mut
overflow_add-index_mut c =
    let i = c.loop-u.u-index in
    let xs = c.args.targets.now in
    let u = get_or xs i 0 in
    let low : u < c.args.elements = All-get_or (λ v. v < c.args.elements) xs i 0 c.loop-u-test.true c.requires in
    let at = get_or_default_zero c.loop-u.counts.items u c.index_mut.result.now (omega (arith, low, c.loop-u.invariant.long)) in
    let most = get_or-le-sum_by (λ x. x) c.loop-u.counts.items u 0 (omega (arith, low, c.loop-u.invariant.long)) in
    omega (arith, c.index_mut.ensures.value, at, most, c.loop-u.invariant.all, c.loop-u-test.true, c.well_formed)

pub loop-u-preserved : goal.loop-u-preserved
loop-u-preserved c =
    let i = c.loop-u.u-index in
    let xs = c.args.targets.now in
    let u = get_or xs i 0 in
    let long = c.loop-u.invariant.long in
    let low : u < c.args.elements = All-get_or (λ v. v < c.args.elements) xs i 0 c.loop-u-test.true c.requires in
    let within : u < length c.loop-u.counts.items = omega (arith, low, long) in
    let at = get_or_default_zero c.loop-u.counts.items u c.index_mut.result.now within in
    let is : c.index_mut.result.now + 1 ≡ get_or c.loop-u.counts.items u 0 + 1 = omega (arith, c.index_mut.ensures.value, at) in
    record {
      long = length-set c.loop-u.counts.items u (c.index_mut.result.now + 1) ∙ long;
      each = λ v in_range. (
          let r = counted_more (λ _. 0) c.loop-u.counts.items xs i (c.index_mut.result.now + 1) c.loop-u-test.true within (λ w h. omega (arith, c.loop-u.invariant.each w (omega (arith, h, long)))) is v (omega (arith, in_range, long)) in
          omega (arith, r));
      all = sum_one_more c.loop-u.counts.items u (c.index_mut.result.now + 1) within is ∙ ap (λ (k : ℕ). k + 1) c.loop-u.invariant.all;
    }
