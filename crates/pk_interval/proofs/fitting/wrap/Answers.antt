use Rattle.std.proofs.Common.{arith, ap, ◌∙◌, ◌≡◌, FitsSigned, rules, ◌-ℤ◌}
use Rattle.std.specs.Int.{w128}
use Rattle.std.proofs.lemmas.Int.{ints, to_z-of_z}
use Rattle.pk_ctypes.specs.Types.{wrapped}
use Rattle.pk_interval.specs.Ranges.{Range}
use Rattle.pk_interval.specs.Fitting.{shifted, moved_if}
use Rattle.pk_interval.proofs.Moves.{shifted_in}
use Rattle.pk_interval.proofs.fitting.wrap.Goals as goal

pub returns-clause-inside : goal.returns-clause-inside
returns-clause-inside c =
    let al = ap (λ (r : Range). r.lo) c.a.view_is in
    let ah = ap (λ (r : Range). r.hi) c.a.view_is in
    let fal : FitsSigned w128 c.a.inside.lo = search rules in
    let fs : FitsSigned w128 c.shift.result = record { sfits = c.shift.type_inv } in
    let e = simp to_z-of_z at c.move_by.ensures in
    let f = simp to_z-of_z at c.shift.ensures in
    let g : c.move_by.result ≡ shifted c.args.t c.args.a.now = e ∙ ap (moved_if c.args.t c.args.a.now) (f ∙ ap (λ l. wrapped c.args.t l -ℤ l) al) in
    rw g (shifted_in c.args.t c.args.a.now (omega (arith, ints, c.a.invariant)))
