use Rattle.std.proofs.Common.{ap, refl, to_z, of_z, ◌∙◌, ◌≡◌, FitsSigned}
use Rattle.std.specs.Int.{w128}
use Rattle.pk_ctypes.specs.Types.{wrapped}
use Rattle.pk_interval.proofs.Moves.{shift_fits}
use Rattle.pk_interval.proofs.Numbers.{back_to}
use Rattle.pk_interval.proofs.fitting.shift.Goals as goal

own : (c : goal.After-convert) → to_z w128 (of_z w128 c.args.z) ≡ c.args.z
own c = back_to c.args.z c.args.z c.ranges.z refl

made : (c : goal.After-convert) → to_z w128 (of_z w128 c.convert.result) ≡ wrapped c.args.t c.args.z
made c =
    let fits : FitsSigned w128 c.convert.result = record { sfits = c.convert.type_inv } in
    back_to c.convert.result _ fits (c.convert.ensures ∙ ap (wrapped c.args.t) (own c))

pub overflow_sub-result : goal.overflow_sub-result
overflow_sub-result c = rw (made c, own c) (shift_fits c.args.t c.args.z c.ranges.z c.requires)

pub returns : goal.returns
returns c = rw (made c, own c) (back_to _ _ (shift_fits c.args.t c.args.z c.ranges.z c.requires) refl)
