use Rattle.std.proofs.Common.{arith, ◌≡◌, FitsSigned}
use Rattle.std.specs.Int.{w128, int_min, int_max}
use Rattle.std.proofs.lemmas.Int.{ints}
use Rattle.pk_interval.proofs.Numbers.{same_range, min_value, max_value, back_to}
use Rattle.pk_interval.proofs.scalars.hull.Goals as goal

pub invariant_of-result : goal.invariant_of-result
invariant_of-result c = omega (arith, ints)

pub returns : goal.returns
returns c =
    let f1 : FitsSigned w128 c.lesser.result = record { sfits = c.lesser.type_inv } in
    let f2 : FitsSigned w128 c.lesser-2.result = record { sfits = c.lesser-2.type_inv } in
    let f3 : FitsSigned w128 c.lesser-3.result = record { sfits = c.lesser-3.type_inv } in
    let g1 : FitsSigned w128 c.greater.result = record { sfits = c.greater.type_inv } in
    let g2 : FitsSigned w128 c.greater-2.result = record { sfits = c.greater-2.type_inv } in
    let g3 : FitsSigned w128 c.greater-3.result = record { sfits = c.greater-3.type_inv } in
    let m1 = min_value c.lesser.result c.args.p c.args.q c.ranges.p c.ranges.q c.lesser.ensures.value in
    let m2 = min_value c.lesser-2.result c.args.r c.args.s c.ranges.r c.ranges.s c.lesser-2.ensures.value in
    let m3 = min_value c.lesser-3.result c.lesser.result c.lesser-2.result f1 f2 c.lesser-3.ensures.value in
    let n1 = max_value c.greater.result c.args.p c.args.q c.ranges.p c.ranges.q c.greater.ensures.value in
    let n2 = max_value c.greater-2.result c.args.r c.args.s c.ranges.r c.ranges.s c.greater-2.ensures.value in
    let n3 = max_value c.greater-3.result c.greater.result c.greater-2.result g1 g2 c.greater-3.ensures.value in
    let least : c.lesser-3.result ≡ int_min (int_min c.args.p c.args.q) (int_min c.args.r c.args.s) = cc in
    let most : c.greater-3.result ≡ int_max (int_max c.args.p c.args.q) (int_max c.args.r c.args.s) = cc in
    same_range _ _ _ _ (back_to _ _ f3 least) (back_to _ _ g3 most)
