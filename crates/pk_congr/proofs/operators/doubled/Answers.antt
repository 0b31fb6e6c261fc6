use Rattle.std.specs.Prelude.{◌≡◌, ◌≤ℤ◌, pos, true, unsigned_abs, ◌^◌, FitsSigned}
use Rattle.std.specs.Int.{w128}
use Rattle.std.proofs.Common.{◌∙◌, ap, arith, to_z, of_z, sym}
use Rattle.std.proofs.lemmas.Int.{ints, to_z-of_z}
use Rattle.pk_ctypes.specs.Operators.{is_count}
use Rattle.pk_congr.specs.Classes.{Class}
use Rattle.pk_congr.proofs.Held.{same_products, doubled_same}
use Rattle.pk_congr.proofs.operators.doubled.Goals as goal

pub returns-then-is_shift_count : goal.returns-then-is_shift_count
returns-then-is_shift_count c =
    let am : c.a.inside.m ≡ c.args.a.now.m = ap (λ (v : Class). v.m) c.a.view_is in
    let ar : c.a.inside.r ≡ c.args.a.now.r = ap (λ (v : Class). v.r) c.a.view_is in
    let bm : c.b.inside.m ≡ c.args.b.now.m = ap (λ (v : Class). v.m) c.b.view_is in
    let br : c.b.inside.r ≡ c.args.b.now.r = ap (λ (v : Class). v.r) c.b.view_is in
    let bottom : to_z w128 (of_z w128 c.b.inside.r) ≡ c.args.b.now.r = omega (arith, ints) in
    let count : is_count c.args.t c.args.b.now.r ≡ true = ap (is_count c.args.t) (sym bottom) ∙ sym c.if-is_shift_count.ensures in
    let fits : FitsSigned w128 c.power-power.result = record { sfits = c.power-power.type_inv } in
    let by : to_z w128 (of_z w128 c.power-power.result) ≡ pos (2 ^ unsigned_abs c.args.b.now.r) =
    to_z-of_z w128 c.power-power.result fits ∙ c.power-power.ensures ∙ ap (λ v. pos (2 ^ unsigned_abs v)) bottom in
    let from : pos 0 ≤ℤ c.args.a.now.m = omega (arith, ints) in
    let none : c.args.b.now.m ≡ pos 0 = omega (arith, ints, c.if-b-eq0.true) in
    c.doubled_class.ensures
    ∙ doubled_same c.args.t c.args.a.now c.args.b.now c.times.result c.times-then-is_shift_count.result from none count
    (same_products (to_z w128 (of_z w128 c.a.inside.m)) (to_z w128 (of_z w128 c.power-power.result)) c.args.a.now.m (pos (2 ^ unsigned_abs c.args.b.now.r)) c.times.result c.times.ensures (omega (arith, ints)) by)
    (same_products (to_z w128 (of_z w128 c.a.inside.r)) (to_z w128 (of_z w128 c.power-power.result)) c.args.a.now.r (pos (2 ^ unsigned_abs c.args.b.now.r)) c.times-then-is_shift_count.result c.times-then-is_shift_count.ensures (omega (arith, ints)) by)
