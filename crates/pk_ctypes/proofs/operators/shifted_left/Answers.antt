use Rattle.std.proofs.Common.{◌∙◌, ap, sym}
use Rattle.std.specs.Int.{w128}
use Rattle.std.proofs.lemmas.Int.{to_z-of_z}
use Rattle.pk_ctypes.specs.declared.faults.Fault.TheVariants.{Shift}
use Rattle.pk_ctypes.specs.Operators.{is_count, is_below_zero, fitted}
use Rattle.pk_ctypes.proofs.Shifts.{left_back, left_value}
use Rattle.pk_ctypes.proofs.operators.shifted_left.Goals as goal

pub returns-else-below_zero : goal.returns-else-below_zero
returns-else-below_zero c =
    let count = ap (is_count c.args.t) (sym (to_z-of_z w128 c.args.b c.ranges.b)) ∙ sym c.is_shift_count.ensures ∙ c.if-not-is_shift_count.false in
    let some = ap (is_below_zero c.args.t) (sym (to_z-of_z w128 c.args.a c.ranges.a)) ∙ sym c.below_zero.ensures ∙ c.if-below_zero.false in
    c.fit.ensures ∙ ap (fitted Shift c.args.t) (left_back c.args.t c.args.a c.args.b c.requires count some) ∙ sym (left_value c.args.t c.args.a c.args.b count some)
