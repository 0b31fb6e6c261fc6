use Rattle.std.specs.Prelude.{◌≡◌, unsigned_abs, FitsSigned, int_div}
use Rattle.std.specs.Int.{w128}
use Rattle.std.proofs.Common.{◌∙◌, ap, arith, sym}
use Rattle.std.proofs.lemmas.Int.{ints, quot_is, to_z-of_z}
use Rattle.pk_congr.specs.Classes.{Class}
use Rattle.pk_congr.proofs.Held.{quotient_same, quotient_fits}
use Rattle.pk_congr.proofs.operators.quotient.Goals as goal

pub returns-then-divides_all : goal.returns-then-divides_all
returns-then-divides_all c =
    let yes = sym c.if-divides_all.ensures in
    let am : c.a.inside.m ≡ c.args.a.now.m = ap (λ (v : Class). v.m) c.a.view_is in
    let ar : c.a.inside.r ≡ c.args.a.now.r = ap (λ (v : Class). v.r) c.a.view_is in
    let br : c.b.inside.r ≡ c.args.b.now.r = ap (λ (v : Class). v.r) c.b.view_is in
    let left : FitsSigned w128 c.a.inside.m = omega (arith, ints) in
    let top : FitsSigned w128 c.a.inside.r = omega (arith, ints) in
    let bottom : FitsSigned w128 c.b.inside.r = omega (arith, ints) in
    let size : c.unsigned_abs.result ≡ unsigned_abs c.args.a.now.m = (simp to_z-of_z at c.unsigned_abs.ensures.value) ∙ ap unsigned_abs am in
    let divisor : c.unsigned_abs-then-divides_all.result ≡ unsigned_abs c.args.b.now.r = (simp to_z-of_z at c.unsigned_abs-then-divides_all.ensures.value) ∙ ap unsigned_abs br in
    c.class.ensures
    ∙ quotient_same c.args.a.now c.args.b.now c.unsigned_abs.result c.unsigned_abs-then-divides_all.result yes size divisor _
    (quot_is w128 c.a.inside.r c.b.inside.r top bottom (quotient_fits c.a.inside.r c.b.inside.r c.a.invariant.rest_held) ∙ ap (λ v. int_div v c.b.inside.r) ar ∙ ap (int_div c.args.a.now.r) br)
