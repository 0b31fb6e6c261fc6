use Rattle.std.proofs.Common.{◌∙◌, ap, sym}
use Rattle.std.specs.Int.{w128}
use Rattle.std.proofs.lemmas.Int.{to_z-of_z}
use Rattle.pk_ctypes.specs.Operators.{is_count}
use Rattle.pk_ctypes.proofs.Shifts.{right_back}
use Rattle.pk_ctypes.proofs.operators.shifted_right.Goals as goal

pub returns-then-is_shift_count : goal.returns-then-is_shift_count
returns-then-is_shift_count c =
    let count = ap (is_count c.args.t) (sym (to_z-of_z w128 c.args.b c.ranges.b)) ∙ sym c.is_shift_count.ensures ∙ c.if-is_shift_count.true in
    right_back c.args.t c.args.a c.args.b c.ranges.a c.requires count
