use Rattle.std.proofs.Common.{arith, sym, ◌∙◌, ◌<◌, ◌≤◌, ◌^◌, ◌-◌, ◌≡◌, unsigned_abs, FitsSigned}
use Rattle.std.specs.Int.{w128}
use Rattle.std.proofs.lemmas.Int.{ints, to_z-of_z}
use Rattle.pk_interval.specs.Operators.{digits_of}
use Rattle.pk_interval.proofs.Numbers.{digits-none, fewer_digits, all_digits}
use Rattle.pk_interval.proofs.bits.+digits.Goals as goal

pub returns-then-k-eq0-clause-value : goal.returns-then-k-eq0-clause-value
returns-then-k-eq0-clause-value t c = rw c.if-k-eq0.true (sym (digits-none (unsigned_abs c.args.m)))

pub returns-then-m-power-clause-value : goal.returns-then-m-power-clause-value
returns-then-m-power-clause-value t c =
    let own : FitsSigned w128 c.args.m = c.ranges.m in
    let fits : FitsSigned w128 c.power.result = record { sfits = c.power.type_inv } in
    let small : unsigned_abs c.args.m < 2 ^ (c.args.k - 1) = omega (arith, ints, c.power.ensures) in
    let is : c.digits.result ≡ digits_of (c.args.k - 1) (unsigned_abs c.args.m) = simp to_z-of_z at c.digits.ensures.value in
    is ∙ sym (fewer_digits c.args.k (unsigned_abs c.args.m) (omega arith) small)

pub returns-else-m-power-clause-value : goal.returns-else-m-power-clause-value
returns-else-m-power-clause-value t c =
    let own : FitsSigned w128 c.args.m = c.ranges.m in
    let fits : FitsSigned w128 c.power.result = record { sfits = c.power.type_inv } in
    let large : 2 ^ (c.args.k - 1) ≤ unsigned_abs c.args.m = omega (arith, ints, c.power.ensures) in
    sym (all_digits c.args.k (unsigned_abs c.args.m) (omega arith) large)
