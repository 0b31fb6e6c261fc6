use Rattle.std.specs.Prelude.{◌≡◌, ◌≤ℤ◌, ◌<ℤ◌, pos, FitsSigned}
use Rattle.std.specs.Int.{w128, int_rem_euclid}
use Rattle.std.proofs.Common.{◌∙◌, ap, sym, arith}
use Rattle.std.proofs.lemmas.Int.{ints, to_z-of_z}
use Rattle.pk_ctypes.specs.Types.{size_of, high_of}
use Rattle.pk_ctypes.proofs.Wrapped.{rest_in, rest_past}
use Rattle.pk_ctypes.proofs.conversions.convert.Goals as goal

pub returns-then-rest-high : goal.returns-then-rest-high
returns-then-rest-high c =
    let t = c.args.t in
    let rest = c.rem_euclid-rest.result in
    let value : FitsSigned w128 c.args.value = c.ranges.value in
    let size : FitsSigned w128 c.size.result = record { sfits = c.size.type_inv } in
    let is : rest ≡ int_rem_euclid c.args.value (pos (size_of t)) = (simp to_z-of_z at c.rem_euclid-rest.ensures.value) ∙ ap (int_rem_euclid c.args.value) c.size.ensures in
    let past : high_of t <ℤ rest = omega (arith, ints, c.range-high.ensures.high, c.if-rest-high.true) in
    sym (rest_past t c.args.value rest _ is past (omega (arith, ints, c.size-then-rest-high.ensures)))

pub returns-else-rest-high : goal.returns-else-rest-high
returns-else-rest-high c =
    let t = c.args.t in
    let rest = c.rem_euclid-rest.result in
    let value : FitsSigned w128 c.args.value = c.ranges.value in
    let size : FitsSigned w128 c.size.result = record { sfits = c.size.type_inv } in
    let left : FitsSigned w128 rest = record { sfits = c.rem_euclid-rest.type_inv } in
    let is : rest ≡ int_rem_euclid c.args.value (pos (size_of t)) = (simp to_z-of_z at c.rem_euclid-rest.ensures.value) ∙ ap (int_rem_euclid c.args.value) c.size.ensures in
    let within : rest ≤ℤ high_of t = omega (arith, ints, c.range-high.ensures.high, c.if-rest-high.false) in
    to_z-of_z w128 rest left ∙ sym (rest_in t c.args.value rest is within)
